use Rattle.kmc_reads.proofs.Staying.{ended_stay}
use Rattle.kmc_reads.proofs.laws.ended_stay.Goals as goal

pub returns : goal.returns
returns c = ended_stay
