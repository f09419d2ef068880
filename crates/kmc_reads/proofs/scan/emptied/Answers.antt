use Rattle.std.proofs.Common.{rules}
use Rattle.kmc_reads.proofs.scan.emptied.Goals as goal

pub returns-then-place-gt0-clause-inside : goal.returns-then-place-gt0-clause-inside
returns-then-place-gt0-clause-inside c = search rules
