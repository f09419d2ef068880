use Rattle.std.proofs.Common.{◌≤◌}
use Rattle.kmc_stage_two.proofs.giants.count_giants.Given as goal

-- at most each body so far is a giant
abbrev pub invariant-loop-body-2 : goal.invariant-loop-body-2
invariant-loop-body-2 l = l.giants ≤ l.body-index
