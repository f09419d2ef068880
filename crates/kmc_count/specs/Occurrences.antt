-- How often a word stands in reads, counted place by place.
use Rattle.std.specs.Prelude.{ℕ, if◌then◌else◌, Bool, nat_eq, List, length, Option, None, Some, false}
use Rattle.std.specs.List.{count_by, sum_by, range_with_len}
use Rattle.std.specs.Cmp.Lexicographic.{pointwise}
use Rattle.kmc_base.specs.declared.strands.Strands.{Strands}
use Rattle.kmc_base.specs.Strands.{key}
use Rattle.kmc_base.specs.Places.{word_at}

-- whether two words are one
abbrev pub same_word : List ℕ → List ℕ → Bool
same_word = pointwise nat_eq

-- in how many words of the list x stands
abbrev pub occurrences : List (List ℕ) → List ℕ → ℕ
occurrences ws x = count_by (λ w. same_word w x) ws

-- the weights of x in a list of words with weights, added up: of (ACG, 2), (CGT, 1), (ACG, 3) and ACG, 5
abbrev pub weight_of : List (List ℕ × ℕ) → List ℕ → ℕ
weight_of ps x = sum_by (λ p. if same_word p.0 x then p.1 else 0) ps

-- whether x is the key of the word at a place
abbrev pub is_key_of : Strands → List ℕ → Option (List ℕ) → Bool
is_key_of strands x None = false
is_key_of strands x (Some w) = same_word (key strands w) x

-- the direct count: the number of pairs of a read and a counted place in it whose word has the key x. In the read ACGTACGT
-- with both strands as one, ACGT is counted 2 times, at places 0 and 4; CGTA 2 times, at place 1 and for TACG at place 3;
-- TACG, which is no key, 0 times
abbrev pub count_of : Strands → ℕ → List (List ℕ) → List ℕ → ℕ
count_of strands k reads x = sum_by (λ read. count_by (λ i. is_key_of strands x (word_at k read i)) (range_with_len 0 (length read))) reads
