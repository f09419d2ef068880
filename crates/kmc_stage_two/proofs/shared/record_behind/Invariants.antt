use Rattle.std.proofs.Common.{◌≤◌, ◌-◌, length}
use Rattle.kmc_stage_two.proofs.shared.record_behind.Given as goal

-- the walk stays within the body
abbrev pub invariant-loop-offset : goal.invariant-loop-offset
invariant-loop-offset l = record { inside : l.offset ≤ length l.body }

abbrev pub decreases-loop-offset : goal.decreases-loop-offset
decreases-loop-offset l = length l.body - l.offset
