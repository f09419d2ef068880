use Rattle.std.proofs.Common.{refl}
use Rattle.kmc_slice_files.specs.Check.{folded}
use Rattle.kmc_slice_files.proofs.check.fold.Goals as goal

pub returns : goal.returns
unfolding folded
returns c = refl
