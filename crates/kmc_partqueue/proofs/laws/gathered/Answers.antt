use Rattle.kmc_partqueue.proofs.SentAndGot.{gathered_law}
use Rattle.kmc_partqueue.proofs.laws.gathered.Goals as goal

pub returns : goal.returns
returns g c = gathered_law _
