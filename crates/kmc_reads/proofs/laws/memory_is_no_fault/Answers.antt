use Rattle.kmc_reads.proofs.NoMemory.{memory_is_no_fault}
use Rattle.kmc_reads.proofs.laws.memory_is_no_fault.Goals as goal

pub returns : goal.returns
returns c = memory_is_no_fault
