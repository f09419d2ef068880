use Rattle.std.proofs.Common.{arith}
use Rattle.std.proofs.lemmas.Grind.{common_steps}
use Rattle.kmc_reads.proofs.scan.Scan.open.Goals as goal

pub returns-in-Body : goal.returns-in-Body
returns-in-Body c = grind (arith, common_steps)
