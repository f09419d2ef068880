use Rattle.std.proofs.Common.{rules}
use Rattle.kmc_slice_files.specs.Frames.{spare_head}
use Rattle.kmc_slice_files.proofs.frame.head.Goals as goal

pub returns : goal.returns
unfolding spare_head
returns c = search rules
