-- Laws of histograms and of unions.
use Rattle.std.specs.Prelude.{◌≡◌, ◌+◌, ◌-◌, ◌≤◌, ◌^◌, ◌==◌, ℕ, List, [], ◌∷◌, if◌then◌else◌}
use Rattle.std.specs.BTreeMap.{BTreeMap, IsEmpty, IsOrdered}
use Rattle.std.specs.List.{sum_by}
use Rattle.std.specs.Ordering.{nat_cmp}
use Rattle.kmc_count.specs.declared.limits.Limits.{Limits}
use Rattle.kmc_sum.specs.Listed.{AreListed, IsMerge}
use Rattle.kmc_sum.specs.Sum.{listed_count}
use Rattle.kmc_join.specs.Histogram.{IsHistogram, number_with}
use Rattle.kmc_join.specs.Join.{IsJoin}
use Rattle.kmc_join.specs.Rows.{HasNoZero, number_of}
use Rattle.kmc_join.specs.declared.operation.Choice.TheVariants.{Sum}
use Rattle.kmc_join.specs.declared.operation.Operation.TheVariants.{Union}
use Rattle.kmc_join.specs.declared.rule.CountRange.{CountRange}
use Rattle.kmc_join.specs.declared.rule.JoinRule.{JoinRule}

-- the two lists share no word, and the third has the pairs of both: of (AC, 2), (TT, 7) and (CA, 2) it is (AC, 2), (CA, 2), (TT, 7)
pub record ArePairsOfBoth (left right both : List (List ℕ × ℕ)) : Type 0 where
  pub apart : (x : List ℕ) → 1 ≤ listed_count left x → listed_count right x ≡ 0
  pub each : (x : List ℕ) → listed_count both x ≡ listed_count left x + listed_count right x

-- the number that rows tell of a count, and 0 where they tell none
abbrev pub told : List (ℕ × ℕ) → ℕ → ℕ
told rows n = sum_by (λ r. if r.0 == n then r.1 else 0) rows

-- the histogram of the pairs of two lists that share no word is, count by count, the sum of the histograms of each; so those of slices add
-- up to that of the whole
abbrev pub HistogramsAdd : Type 0
HistogramsAdd = (k : ℕ) (left right both : List (List ℕ × ℕ)) (first second whole : List (ℕ × ℕ)) → AreListed k left → AreListed k right
    → AreListed k both → ArePairsOfBoth left right both → IsHistogram left first → IsHistogram right second → IsHistogram both whole
    → (n : ℕ) → told whole n ≡ told first n + told second n

-- each count that a dump may list is taken
pub record TakesEach (range : CountRange) : Type 0 where
  pub least : range.least ≤ 1
  pub greatest : 2 ^ 64 - 1 ≤ range.greatest

-- the words of either dump, by the sum of their counts
pub record IsUnionBySum (rule : JoinRule) : Type 0 where
  pub operation : rule.operation ≡ Union Sum
  pub left : TakesEach rule.left
  pub right : TakesEach rule.right

-- the union of two dumps by the sum of their counts is their merge, as `kmc_merge` writes it
pub record AreOneSum (rule : JoinRule) (l : Limits) (first second : List ℕ) (pairs : List (List ℕ × ℕ)) : Type 0 where
  pub merge : IsJoin rule l first second pairs → IsMerge l (first ∷ second ∷ []) pairs
  pub join : IsMerge l (first ∷ second ∷ []) pairs → IsJoin rule l first second pairs

abbrev pub UnionBySumIsMerge : Type 0
UnionBySumIsMerge = (rule : JoinRule) (l : Limits) (first second : List ℕ) (pairs : List (List ℕ × ℕ)) → IsUnionBySum rule
    → AreOneSum rule l first second pairs

-- an empty map has seen no count
abbrev pub NothingIsTallied : Type 0
NothingIsTallied = (tally : BTreeMap ℕ ℕ) → IsEmpty tally → HasNoZero nat_cmp tally × ((n : ℕ) → number_of nat_cmp tally n ≡ 0)

-- the rows of a map that tells of each count how many of the pairs have it are their histogram
abbrev pub TallyIsHistogram : Type 0
TallyIsHistogram = (tally : BTreeMap ℕ ℕ) (pairs : List (List ℕ × ℕ)) → IsOrdered nat_cmp tally → HasNoZero nat_cmp tally
    → ((n : ℕ) → number_of nat_cmp tally n ≡ number_with pairs n) → IsHistogram pairs tally.entries
