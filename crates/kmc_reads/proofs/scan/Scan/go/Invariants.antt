use Rattle.std.proofs.Common.{length}
use Rattle.kmc_reads.proofs.Walking.{IsUnder}
use Rattle.kmc_reads.proofs.scan.Scan.go.Given as goal

abbrev pub invariant-loop-line : goal.invariant-loop-line
invariant-loop-line l = IsUnder l.block l.rest l.initial.self l.self

abbrev pub decreases-loop-line : goal.decreases-loop-line
decreases-loop-line l = length l.rest
