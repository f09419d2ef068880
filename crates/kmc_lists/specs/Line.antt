-- The text of a dump.
use Rattle.std.specs.Prelude.{ℕ, ◌+◌, min, List, [], ◌∷◌, ◌++◌, length, map, decimal}
use Rattle.std.specs.List.{flat_map}
use Rattle.kmc_base.specs.Words.{letter}

-- the letters, a tab, the number, a line feed: (ACGT, 2) is `ACGT`, byte 9, `2`, byte 10
abbrev pub line_of : List ℕ × ℕ → List ℕ
line_of p = map letter p.0 ++ 9 ∷ decimal p.1 ++ 10 ∷ []

-- the bytes of a line of a word of k codes and a number of so many digits
abbrev pub line_room : ℕ → ℕ → ℕ
line_room k digits = k + digits + 2

-- the bytes of the line of a word and a count, which has at most twenty digits
abbrev pub line_bytes : List ℕ × ℕ → ℕ
line_bytes p = line_room (length p.0) (min (length (decimal p.1)) 20)

abbrev pub text_of : List (List ℕ × ℕ) → List ℕ
text_of pairs = flat_map line_of pairs
