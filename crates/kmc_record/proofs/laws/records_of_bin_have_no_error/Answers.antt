use Rattle.kmc_record.proofs.Errorless.{no_first_error}
use Rattle.kmc_record.proofs.laws.records_of_bin_have_no_error.Goals as goal

pub returns : goal.returns
returns c = λ bin shape body why h f. no_first_error bin shape body why h f
