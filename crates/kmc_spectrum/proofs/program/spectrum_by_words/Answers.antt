use Rattle.kmc_spectrum.proofs.program.spectrum_by_words.Goals as goal

pub returns-in-Ok-spectrum : goal.returns-in-Ok-spectrum
returns-in-Ok-spectrum g c =
    let answer = c.in-Ok.ensures.answer in
    (record { taken = answer.0; params = c.in-Ok.params; given = answer.1 }, c.in-Ok-spectrum.ensures)

pub returns-in-Err-spectrum : goal.returns-in-Err-spectrum
returns-in-Err-spectrum g c =
    let answer = c.in-Ok.ensures.answer in
    (record { taken = answer.0; params = c.in-Ok.params; given = answer.1 }, c.in-Err-spectrum.ensures)
