use Rattle.std.proofs.Common.{rules}
use Rattle.kmc_base.proofs.kmer.Kmer.of_packed.Goals as goal

pub returns : goal.returns
returns c = search rules
