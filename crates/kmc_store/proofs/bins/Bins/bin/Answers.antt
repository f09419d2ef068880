use Rattle.std.proofs.Common.{arith}
use Rattle.std.proofs.lemmas.Grind.{common_steps}
use Rattle.kmc_store.proofs.bins.Bins.bin.Goals as goal

pub returns-clause-are : goal.returns-clause-are
returns-clause-are c = grind (arith, common_steps)
