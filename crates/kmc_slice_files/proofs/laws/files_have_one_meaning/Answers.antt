use Rattle.kmc_slice_files.proofs.Parsing.{one_meaning}
use Rattle.kmc_slice_files.proofs.laws.files_have_one_meaning.Goals as goal

pub returns : goal.returns
returns c = one_meaning
