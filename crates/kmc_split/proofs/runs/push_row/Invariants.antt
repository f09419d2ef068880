use Rattle.std.proofs.Common.{◌≡◌, ℕ, ◌≤◌, ◌<◌, ◌-◌}
use Rattle.kmc_split.specs.Cut.{AreRuns}
use Rattle.kmc_split.specs.Rows.{IsRow, MayFollow}
use Rattle.kmc_split.proofs.runs.push_row.Given as goal

abbrev pub invariant-loop-place : goal.invariant-loop-place
invariant-loop-place l = record {
  from : l.start ≤ l.place;
  before : l.place < l.end;
  runs : (at : ℕ → ℕ) → IsRow at l.start l.end → at l.start ≡ l.signature → AreRuns at 0 l.start l.initial.runs.items
      → MayFollow l.signature l.initial.runs.items → AreRuns at 0 l.place l.runs.items;
  apart : MayFollow l.signature l.initial.runs.items → MayFollow l.signature l.runs.items;
}

abbrev pub decreases-loop-place : goal.decreases-loop-place
decreases-loop-place l = l.end - l.place
