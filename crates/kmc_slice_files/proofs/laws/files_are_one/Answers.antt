use Rattle.kmc_slice_files.proofs.Parsing.{files_told}
use Rattle.kmc_slice_files.proofs.laws.files_are_one.Goals as goal

pub returns : goal.returns
returns c = files_told
