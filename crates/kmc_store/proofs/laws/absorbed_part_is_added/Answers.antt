use Rattle.std.proofs.Common.{arith}
use Rattle.std.proofs.lemmas.Grind.{common_steps}
use Rattle.kmc_store.proofs.laws.absorbed_part_is_added.Goals as goal

pub returns : goal.returns
returns c = grind (arith, common_steps)
