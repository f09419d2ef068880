use Rattle.std.proofs.Common.{length, ◌+◌, ◌-◌, ◌≤◌}
use Rattle.kmc_base.specs.Stretches.{AreBases}
use Rattle.kmc_base.proofs.stretch.leading_bases.Given as goal

abbrev pub invariant-whole : goal.invariant-whole
invariant-whole l = record { within : l.count ≤ length l.bytes; bases : AreBases l.count l.bytes }

abbrev pub decreases-whole : goal.decreases-whole
decreases-whole l = length l.bytes + 1 - l.count

abbrev pub invariant-loop-i : goal.invariant-loop-i
invariant-loop-i l = AreBases l.i l.bytes
