use Rattle.kmc_database.proofs.telling.pack_reader.Goals as goal

pub returns-in-Ok-clause-done : goal.returns-in-Ok-clause-done
returns-in-Ok-clause-done g c = λ is. ((_, c.in-Ok.ensures.ok), c.in-Ok.ensures.sound)

pub returns-in-Err-clause-failed : goal.returns-in-Err-clause-failed
returns-in-Err-clause-failed g c = λ is. (c.in-Err.error, c.in-Err.ensures.cause, c.in-Err.ensures.begun)
