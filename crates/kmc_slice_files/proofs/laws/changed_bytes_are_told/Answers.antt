use Rattle.kmc_slice_files.proofs.Changed.{bytes_told}
use Rattle.kmc_slice_files.proofs.laws.changed_bytes_are_told.Goals as goal

pub returns : goal.returns
returns c = bytes_told
