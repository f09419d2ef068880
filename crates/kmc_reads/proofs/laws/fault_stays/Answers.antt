use Rattle.kmc_reads.proofs.Staying.{fault_stays}
use Rattle.kmc_reads.proofs.laws.fault_stays.Goals as goal

pub returns : goal.returns
returns c = fault_stays
