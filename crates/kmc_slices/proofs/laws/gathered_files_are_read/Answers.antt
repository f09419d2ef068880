use Rattle.kmc_slices.proofs.KnownFiles.{known_files}
use Rattle.kmc_slices.proofs.laws.gathered_files_are_read.Goals as goal

pub returns : goal.returns
returns c = known_files
