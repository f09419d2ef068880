-- How often counts were seen in the pairs of lists, in the order in which the lists have them.
use Rattle.std.specs.Prelude.{◌≡◌, ◌==◌, ◌+◌, ℕ, List, count_by}
use Rattle.std.specs.BTreeMap.{BTreeMap}
use Rattle.std.specs.Ordering.{nat_cmp}
use Rattle.kmc_join.specs.Rows.{HasNoZero, number_of}
use Rattle.kmc_join.specs.Tally.{seen}

-- how many of the pairs, whose words are packed, have this count
abbrev pub packed_with : List (ℕ × ℕ) → ℕ → ℕ
packed_with pairs n = count_by (λ p. p.1 == n) pairs

-- the counts of these pairs were seen once more each
pub record SeesPairs (small small' : List ℕ) (great great' : BTreeMap ℕ ℕ) (pairs : List (ℕ × ℕ)) : Type 0 where
  pub sound : HasNoZero nat_cmp great'
  pub counts : (n : ℕ) → seen small' great' n ≡ seen small great n + packed_with pairs n

-- the map tells of each count how many of the pairs have it, and of no other
pub record IsTallyOf (pairs : List (ℕ × ℕ)) (tally : BTreeMap ℕ ℕ) : Type 0 where
  pub sound : HasNoZero nat_cmp tally
  pub counts : (n : ℕ) → number_of nat_cmp tally n ≡ packed_with pairs n
