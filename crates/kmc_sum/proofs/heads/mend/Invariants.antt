use Rattle.std.proofs.Common.{◌≡◌, ◌≢◌, ℕ, ◌+◌, ◌*◌, ◌<◌, ◌≤◌, length}
use Rattle.kmc_sum.specs.Heads.{head_at, IsWinner}
use Rattle.kmc_sum.proofs.heads.mend.Given as goal

-- all places but this one are settled
abbrev pub invariant-loop-node : goal.invariant-loop-node
invariant-loop-node l = record {
  inside : 2 * l.node + 1 < length l.heads;
  others : (j : ℕ) → j ≢ l.node → 1 ≤ j → 2 * j + 1 < length l.heads → IsWinner l.heads j;
  leaves : (j : ℕ) → length l.heads ≤ 2 * j → head_at l.heads j ≡ head_at l.initial.heads j;
}

abbrev pub decreases-loop-node : goal.decreases-loop-node
decreases-loop-node l = l.node
