-- Rows of keys and their numbers, as a map has them.
use Rattle.std.specs.Prelude.{◌≡◌, ◌≤◌, ◌+◌, ℕ, List, map, if◌then◌else◌}
use Rattle.std.specs.BTreeMap.{BTreeMap, get}
use Rattle.std.specs.List.{AllByRecursion, Contains}
use Rattle.std.specs.List.Sorted.{IsStrictlySortedBy}
use Rattle.std.specs.Option.{unwrap_or}
use Rattle.std.specs.Ordering.{eq_by_cmp}
use Rattle.std.specs.declared.cmp.Ordering.{Ordering}

module _ {K : Type 0} (order : K → K → Ordering) where
  -- exactly the keys that have a number, rising, each with its number
  pub record AreNumbered (number : K → ℕ) (rows : List (K × ℕ)) : Type 0 where
    pub rising : IsStrictlySortedBy order (map (λ r. r.0) rows)
    pub each : AllByRecursion (λ r. (1 ≤ r.1) × (r.1 ≡ number r.0)) rows
    pub all : (key : K) → 1 ≤ number key → Contains (map (λ r. r.0) rows) key

  -- how often this key was seen
  abbrev pub number_of : BTreeMap K ℕ → K → ℕ
  number_of tally key = unwrap_or (get order tally key) 0

  -- no key is there that was not seen
  abbrev pub HasNoZero : BTreeMap K ℕ → Type 0
  HasNoZero tally = (key : K) → 1 ≤ unwrap_or (get order tally key) 1

  -- this key was seen so many times more
  pub record CountsMore (old new : BTreeMap K ℕ) (key : K) (by : ℕ) : Type 0 where
    pub sound : HasNoZero new
    pub counts : (other : K) → number_of new other ≡ number_of old other + (if eq_by_cmp order key other then by else 0)

  abbrev pub CountsOneMore : BTreeMap K ℕ → BTreeMap K ℕ → K → Type 0
  CountsOneMore old new key = CountsMore old new key 1
