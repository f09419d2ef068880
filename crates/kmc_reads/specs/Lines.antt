-- The lines of a text, and their numbers.
use Rattle.std.specs.Prelude.{ℕ, ◌+◌, ◌==◌, if◌then◌else◌, List, [], ◌∷◌, map}
use Rattle.std.specs.Io.BufRead.{strip_last}
use Rattle.std.specs.Io.Iter.{u64_saturate}

abbrev pub line_feed : ℕ
line_feed = 10

abbrev pub carriage_return : ℕ
carriage_return = 13

-- a byte more at the front of the first line
abbrev pub onto_first : ℕ → List (List ℕ) → List (List ℕ)
onto_first b [] = (b ∷ []) ∷ []
onto_first b (l ∷ ls) = (b ∷ l) ∷ ls

-- the text cut at each line feed; what stands after the last is a line too where it is not empty
abbrev pub raw_lines : List ℕ → List (List ℕ)
raw_lines [] = []
raw_lines (b ∷ bs) = if b == line_feed then [] ∷ raw_lines bs else onto_first b (raw_lines bs)

-- the contents of the lines: each without one carriage return where that is its last byte
abbrev pub lines : List ℕ → List (List ℕ)
lines text = map (strip_last carriage_return) (raw_lines text)

-- the number of the line that stands so many lines past line n, at most the greatest u64
abbrev pub line_past : ℕ → ℕ → ℕ
line_past n more = u64_saturate (n + more)
