-- What the totals tell that a reader has seen at the ends of lanes.
use Rattle.std.specs.Prelude.{◌≡◌, ℕ, ◌<◌, List, length, Some, slice_get}
use Rattle.kmc_partqueue.specs.declared.views.Ending.{Ending}
use Rattle.kmc_partqueue.specs.Counts.{Among}

-- the lane was seen at its end, with this total
abbrev pub SawEnd : List Ending → ℕ → ℕ → Type 0
SawEnd ends lane total = Among record { writer = lane; total = total } ends

-- each of the lanes was seen at its end
abbrev pub SawAllEnds : ℕ → List Ending → Type 0
SawAllEnds lanes ends = (w : ℕ) → w < lanes → (t : ℕ) × SawEnd ends w t

-- these are the totals that were seen
abbrev pub AreSeenTotals : ℕ → List Ending → List ℕ → Type 0
AreSeenTotals lanes ends totals = (length totals ≡ lanes)
    × ((w : ℕ) → w < lanes → (t : ℕ) × SawEnd ends w t × (slice_get totals w ≡ Some t))
