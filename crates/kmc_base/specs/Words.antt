-- Words over the four bases, as lists of codes.
use Rattle.std.specs.Prelude.{ℕ, ◌+◌, ◌-◌, ◌<◌, ◌≤◌, ◌==◌, ◌||◌, if◌then◌else◌, List, [], ◌∷◌, length, map, take, drop, reverse, Option, Some, None, option_map, option_and_then, slice_index, All}
use Rattle.std.specs.List.{range_with_len}
use Rattle.std.specs.Ordering.{nat_cmp, is_lt, then_cmp, on}
use Rattle.std.specs.Cmp.Lexicographic.{slice_cmp}
use Rattle.std.specs.declared.cmp.Ordering.{Ordering}
use Rattle.kmc_base.specs.declared.kmer.TheConstants.{MAX_K}

-- the code of a byte that is a base, in either case: A, C, G, T are 0, 1, 2, 3
abbrev pub code_of : ℕ → Option ℕ
code_of b =
    if (b == 65) || (b == 97) then Some 0 else
    if (b == 67) || (b == 99) then Some 1 else
    if (b == 71) || (b == 103) then Some 2 else
    if (b == 84) || (b == 116) then Some 3 else None

-- the codes of the bytes, where each is a base
abbrev pub codes_of : List ℕ → Option (List ℕ)
codes_of [] = Some []
codes_of (b ∷ bs) = option_and_then (λ c. option_map (λ cs. c ∷ cs) (codes_of bs)) (code_of b)

-- A is the complement of T, and C of G
abbrev pub complement : ℕ → ℕ
complement c = 3 - c

abbrev pub rev_comp : List ℕ → List ℕ
rev_comp w = reverse (map complement w)

-- the n codes from place i on
abbrev pub window : ℕ → List ℕ → ℕ → List ℕ
window n w i = take n (drop i w)

-- the words of n codes that stand in a longer one, in the order of their places
abbrev pub windows : ℕ → List ℕ → List (List ℕ)
windows n w = map (window n w) (range_with_len 0 (length w + 1 - n))

-- the order of words of one length
abbrev pub word_cmp : List ℕ → List ℕ → Ordering
word_cmp = slice_cmp nat_cmp

-- the lesser of a word and its reverse complement
abbrev pub canonical : List ℕ → List ℕ
canonical w = if is_lt (word_cmp (rev_comp w) w) then rev_comp w else w

-- shorter words first
abbrev pub kmer_cmp : List ℕ → List ℕ → Ordering
kmer_cmp = then_cmp (on length nat_cmp) word_cmp

-- the upper-case letter of a code
abbrev pub letter : ℕ → ℕ
letter c = slice_index (65 ∷ 67 ∷ 71 ∷ 84 ∷ []) c

-- what a `Kmer` can hold
pub record IsKmer (w : List ℕ) : Type 0 where
  pub some : 1 ≤ length w
  pub most : length w ≤ MAX_K
  pub codes : All (λ c. c < 4) w
