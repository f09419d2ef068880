use Rattle.kmc_count.specs.Lemmas.PassedOn.{passed_on}
use Rattle.kmc_count.proofs.bin.take_items.Goals as goal

pub returns-in_err-take_and_add-clause-damaged : goal.returns-in_err-take_and_add-clause-damaged
returns-in_err-take_and_add-clause-damaged g c = λ fault offset is.
    c.take_and_add.ensures.damaged fault offset
    (passed_on c.take_and_add.result c.from_residual.result _ _ c.in_err-take_and_add.was c.from_residual.ensures.1 is)
