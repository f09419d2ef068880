use Rattle.std.proofs.Common.{rules}
use Rattle.kmc_reads.proofs.scan.Scan.undo.Goals as goal

pub returns-clause-ends : goal.returns-clause-ends
returns-clause-ends c = search rules
