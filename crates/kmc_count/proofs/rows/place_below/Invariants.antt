use Rattle.std.proofs.Common.{◌≡◌, ◌-◌, ◌<◌, ◌≤◌, ℕ, get_or}
use Rattle.kmc_count.proofs.rows.place_below.Given as goal

abbrev pub invariant-loop-below : goal.invariant-loop-below
invariant-loop-below l = record {
  from : l.below < l.from;
  shared : l.shared ≤ l.below;
  none : (i : ℕ) → l.below < i → i < l.from → get_or l.waiting i 0 ≡ 0;
}

abbrev pub decreases-loop-below : goal.decreases-loop-below
decreases-loop-below l = l.below - l.shared
