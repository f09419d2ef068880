use Rattle.kmc_slices.proofs.Files.{unended}
use Rattle.kmc_slices.proofs.laws.unended_is_no_file.Goals as goal

pub returns : goal.returns
returns c = unended c.files_are_one.ensures
