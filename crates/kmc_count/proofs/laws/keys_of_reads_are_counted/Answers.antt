use Rattle.kmc_count.specs.Lemmas.KeysOfReads.{of_reads}
use Rattle.kmc_count.proofs.laws.keys_of_reads_are_counted.Goals as goal

pub returns : goal.returns
returns c = λ strands k reads x. of_reads strands k x reads
