use Rattle.kmc_partqueue.proofs.Moving.{steps_law}
use Rattle.kmc_partqueue.proofs.laws.steps.Goals as goal

pub returns : goal.returns
returns g c = steps_law _
