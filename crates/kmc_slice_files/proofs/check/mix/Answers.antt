use Rattle.kmc_slice_files.specs.Check.{mixed}
use Rattle.kmc_slice_files.proofs.check.mix.Goals as goal

pub returns : goal.returns
unfolding mixed
returns c = c.multiply.ensures
