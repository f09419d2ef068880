use Rattle.std.proofs.Common.{rules}
use Rattle.kmc_reads.proofs.scan.Scan.next_line.Goals as goal

pub returns-clause-at : goal.returns-clause-at
returns-clause-at c = search rules
