-- The sum of dumps.
use Rattle.std.specs.Prelude.{ℕ, cond, List}
use Rattle.std.specs.List.{sum_by}
use Rattle.kmc_count.specs.Occurrences.{same_word}

-- the number that pairs give a word, and 0 where it is none of theirs: of (AC, 2), (CA, 5) the word CA has 5 and GG has 0
abbrev pub listed_count : List (List ℕ × ℕ) → List ℕ → ℕ
listed_count pairs x = sum_by (λ p. cond (same_word p.0 x) p.1 0) pairs

-- what lists of pairs give a word together: where AC has 2 in one list, 3 in another and is not in a third, it has 5
abbrev pub sum_of : List (List (List ℕ × ℕ)) → List ℕ → ℕ
sum_of lists x = sum_by (λ pairs. listed_count pairs x) lists
