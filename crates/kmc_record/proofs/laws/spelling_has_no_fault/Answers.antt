use Rattle.kmc_record.proofs.Faultless.{no_fault}
use Rattle.kmc_record.proofs.laws.spelling_has_no_fault.Goals as goal

pub returns : goal.returns
returns c = λ k s rest fault h f. no_fault k s rest fault h f
