use Rattle.kmc_record.proofs.Faultless.{no_first_fault}
use Rattle.kmc_record.proofs.laws.whole_body_has_no_fault.Goals as goal

pub returns : goal.returns
returns c = λ k ss body fault offset h f. no_first_fault k ss body fault offset h f
