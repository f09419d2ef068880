use Rattle.std.proofs.Common.{rules}
use Rattle.kmc_base.proofs.kmer.Kmer.key.Goals as goal

pub returns-in-Joined : goal.returns-in-Joined
returns-in-Joined c = search rules
