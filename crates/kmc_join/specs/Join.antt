-- The join of two dumps.
use Rattle.std.specs.Prelude.{ℕ, List}
use Rattle.kmc_count.specs.declared.limits.Limits.{Limits}
use Rattle.kmc_count.specs.Dump.{IsDump}
use Rattle.kmc_sum.specs.Listed.{IsLength, Lists}
use Rattle.kmc_sum.specs.Sum.{listed_count}
use Rattle.kmc_join.specs.Rule.{number_by}
use Rattle.kmc_join.specs.declared.rule.JoinRule.{JoinRule}

-- the number of a word by what two lists of pairs give it: where AC has 2 in the first and 3 in the second, intersecting by the lesser
-- count gives it 2, and subtracting leaves it out; where only counts up to 2 are taken of the second, subtracting gives it 2
abbrev pub joined : JoinRule → List (List ℕ × ℕ) → List (List ℕ × ℕ) → List ℕ → ℕ
joined rule left right x = number_by rule (listed_count left x) (listed_count right x)

-- each of the two texts lists pairs with words of one length, and these pairs are the dump of their join within the limits, by which the
-- joined number is judged
pub record IsJoin (rule : JoinRule) (l : Limits) (first second : List ℕ) (pairs : List (List ℕ × ℕ)) : Type 0 where
  pub k : ℕ
  pub long : IsLength k
  pub left : List (List ℕ × ℕ)
  pub right : List (List ℕ × ℕ)
  pub first_lists : Lists k first left
  pub second_lists : Lists k second right
  pub dump : IsDump (joined rule left right) l pairs
