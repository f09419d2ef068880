use Rattle.kmc_partcore.proofs.Beginnings.{left_begins}
use Rattle.kmc_partcore.proofs.laws.left_begins_accepted.Goals as goal

pub returns : goal.returns
returns g c = left_begins _
