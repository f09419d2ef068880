use Rattle.kmc_partqueue.proofs.Moving.{step_law}
use Rattle.kmc_partqueue.proofs.laws.step.Goals as goal

pub returns : goal.returns
returns g c = step_law _
