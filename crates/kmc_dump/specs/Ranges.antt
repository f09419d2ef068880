-- The pairs of lists by ranges of their words.
use Rattle.std.specs.Prelude.{◌≡◌, ℕ, ◌+◌, ◌-◌, ◌/◌, ◌^◌, ◌<◌, ◌≤◌, List, length, map, slice_index_or, decimal}
use Rattle.std.specs.List.{All, flat_map}
use Rattle.kmc_base.specs.declared.kmer.TheConstants.{MAX_K}
use Rattle.kmc_lists.specs.Listed.{Listed, spelled}
use Rattle.kmc_lists.specs.Ordered.{joined, packs, CanBeMerged, whole, within}
use Rattle.kmc_dump.specs.declared.ranges.Ranges.{Ranges}

-- how many pairs of the lists lie in a range
abbrev pub count_within : ℕ → ℕ → ℕ → List Listed → ℕ
count_within weight from to lists = length (within weight from to (joined (packs lists)))

-- pairs of a word and a number as pairs of numbers
abbrev pub numbers : {A : Type 0} → (A → ℕ) → List (A × ℕ) → List (ℕ × ℕ)
numbers f ps = map (λ p. (f p.0, p.1)) ps

-- the counts of pairs have at most so many digits
abbrev pub AreShort : ℕ → List (ℕ × ℕ) → Type 0
AreShort digits ps = All (λ p. length (decimal p.1) ≤ digits) ps

-- the text of the words of a range, of which each has this line with its count
abbrev pub range_text : (List ℕ × ℕ → List ℕ) → ℕ → ℕ → ℕ → ℕ → List Listed → List ℕ
range_text line k weight from to lists = flat_map line (spelled k (within weight from to (whole lists)))

-- the slots at which ranges begin and end do not fall, and no range has more pairs than this
abbrev pub AreBounds : ℕ → ℕ → List ℕ → List Listed → Type 0
AreBounds weight widest bounds lists = (i : ℕ) → i + 1 < length bounds
    → (slice_index_or bounds i 0 ≤ slice_index_or bounds (i + 1) 0) × (count_within weight (slice_index_or bounds i 0)
    (slice_index_or bounds (i + 1) 0) lists ≤ widest)

-- the lists can be merged, and the ranges part their words: the first begins at the first slot, and every word lies
-- before the end of the last
pub record AreRanges (r : Ranges) (lists : List Listed) : Type 0 where
  pub some : 1 ≤ r.k
  pub most : r.k ≤ MAX_K
  pub merge : CanBeMerged r.k lists
  pub shift : r.shift < 128
  pub ends : 1 ≤ length r.bounds.items
  pub bounds : AreBounds (2 ^ r.shift) r.widest r.bounds.items lists
  pub first : slice_index_or r.bounds.items 0 0 ≡ 0
  pub last : All (λ p. p.0 / 2 ^ r.shift < slice_index_or r.bounds.items (length r.bounds.items - 1) 0) (joined (packs lists))

-- the ranges are closed to the last bound, and so many pairs lie from there to before a slot
pub record ArePartedTo (weight widest : ℕ) (bounds : List ℕ) (to pending : ℕ) (lists : List Listed) : Type 0 where
  pub some : 1 ≤ length bounds
  pub first : slice_index_or bounds 0 0 ≡ 0
  pub low : slice_index_or bounds (length bounds - 1) 0 ≤ to
  pub are : AreBounds weight widest bounds lists
  pub held : pending ≡ count_within weight (slice_index_or bounds (length bounds - 1) 0) to lists

-- at each slot how many pairs of the lists lie there
abbrev pub AreSizes : ℕ → List ℕ → List Listed → Type 0
AreSizes weight sizes lists = (i : ℕ) → i < length sizes → slice_index_or sizes i 0 ≡ count_within weight i (i + 1) lists

-- all pairs of the lists lie in slots below this one
pub record FitSlots (weight slots : ℕ) (lists : List Listed) : Type 0 where
  pub inside : All (λ p. p.0 / weight < slots) (joined (packs lists))

-- so many slots have their sizes
pub record HaveSizes (weight slots : ℕ) (sizes : List ℕ) (lists : List Listed) : Type 0 where
  pub long : length sizes ≡ slots
  pub each : AreSizes weight sizes lists
