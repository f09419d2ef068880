use Rattle.std.proofs.Common.{rules}
use Rattle.kmc_slice_files.specs.Files.{front_bytes}
use Rattle.kmc_slice_files.proofs.header.front.Goals as goal

pub returns : goal.returns
unfolding front_bytes
returns c = search rules
