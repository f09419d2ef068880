use Rattle.std.proofs.Common.{arith}
use Rattle.std.proofs.lemmas.Grind.{common_steps}
use Rattle.kmc_reads.proofs.vectors.slices_of.Goals as goal

pub loop-read-preserved : goal.loop-read-preserved
loop-read-preserved c = grind (arith, common_steps)

pub returns : goal.returns
returns c = grind (arith, common_steps)
