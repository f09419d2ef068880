use Rattle.kmc_base.proofs.Maximal.{segments_are_maximal}
use Rattle.kmc_base.proofs.laws.segments_are_maximal.Goals as goal

pub returns : goal.returns
returns c = segments_are_maximal
