use Rattle.std.proofs.Common.{refl}
use Rattle.kmc_slice_files.specs.Check.{times}
use Rattle.kmc_slice_files.proofs.check.multiply.Goals as goal

pub returns : goal.returns
unfolding times
returns c = refl
