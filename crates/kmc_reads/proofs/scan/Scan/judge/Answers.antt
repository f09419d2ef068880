use Rattle.std.proofs.Common.{arith, rules}
use Rattle.std.proofs.lemmas.Grind.{common_steps}
use Rattle.kmc_reads.proofs.scan.Scan.judge.Goals as goal

pub returns-in-Quality-clause-fault : goal.returns-in-Quality-clause-fault
returns-in-Quality-clause-fault c = grind (arith, common_steps)

pub returns-in_default-6-clause-fine : goal.returns-in_default-6-clause-fine
returns-in_default-6-clause-fine c = grind (arith, common_steps)

pub returns-in_default-3-clause-fine : goal.returns-in_default-3-clause-fine
returns-in_default-3-clause-fine c = search rules
