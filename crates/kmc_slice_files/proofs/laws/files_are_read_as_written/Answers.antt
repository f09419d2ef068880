use Rattle.kmc_slice_files.proofs.Sound.{read_as_written}
use Rattle.kmc_slice_files.proofs.laws.files_are_read_as_written.Goals as goal

pub returns : goal.returns
returns c = read_as_written
