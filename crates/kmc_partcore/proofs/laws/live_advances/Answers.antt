use Rattle.kmc_partcore.proofs.Advancing.{live_advances}
use Rattle.kmc_partcore.proofs.laws.live_advances.Goals as goal

pub returns : goal.returns
returns g c = live_advances _
