use Rattle.kmc_slices.proofs.Files.{file_tells}
use Rattle.kmc_slices.proofs.laws.file_tells_slice.Goals as goal

pub returns : goal.returns
returns c = file_tells c.files_are_one.ensures
