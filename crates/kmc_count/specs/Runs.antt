-- The items of one word at the front of a sorted list.
use Rattle.std.specs.Prelude.{◌≡◌, ℕ, ◌+◌, ◌-◌, ◌/◌, ◌^◌, ◌≤◌, ◌⊎◌, min, List, length, drop, slice_index_or, if◌then◌else◌}
use Rattle.kmc_base.specs.Packed.{unpack}
use Rattle.kmc_base.specs.Weights.{items}
use Rattle.kmc_count.specs.Occurrences.{same_word, weight_of}

-- the packed word p is that of the item that the list begins with
abbrev pub BeginsWith : ℕ → List ℕ → ℕ → Type 0
BeginsWith f ns p = (1 ≤ length ns) × (slice_index_or ns 0 0 / 2 ^ f ≡ p)

-- items of the packed word p stand in front of the rest; what they count in all, as far as 64 bits tell, is `count`
pub record IsRun (k f : ℕ) (ns : List ℕ) (p count : ℕ) (rest : List ℕ) : Type 0 where
  pub total : ℕ
  pub stops : count ≡ min total (2 ^ 64 - 1)
  pub weights : (x : List ℕ) → weight_of (items k f ns) x ≡ (if same_word (unpack k p) x then total else 0) + weight_of (items k f rest) x
  pub taken : ℕ
  pub is : rest ≡ drop taken ns
  pub other : BeginsWith f rest p → ⊥
  pub some : BeginsWith f ns p → 1 ≤ total

-- the lesser of the words that two lists begin with
pub record IsFirstWord (f : ℕ) (ns ms : List ℕ) (p : ℕ) : Type 0 where
  pub first : 1 ≤ length ns → p ≤ slice_index_or ns 0 0 / 2 ^ f
  pub second : 1 ≤ length ms → p ≤ slice_index_or ms 0 0 / 2 ^ f
  pub is : 1 ≤ length ns + length ms → BeginsWith f ns p ⊎ BeginsWith f ms p
