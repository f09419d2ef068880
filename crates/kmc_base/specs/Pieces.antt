-- A long read in pieces that overlap by k - 1 symbols.
use Rattle.std.specs.Prelude.{ℕ, ◌+◌, ◌-◌, ◌*◌, ◌/◌, List, length, map}
use Rattle.std.specs.List.{range_with_len}
use Rattle.kmc_base.specs.Words.{window}

-- in a piece of l symbols so many words of k begin, and so far apart two pieces begin
abbrev pub step_of : ℕ → ℕ → ℕ
step_of k l = l + 1 - k

-- how many pieces hold the places of n symbols where a word of k begins
abbrev pub piece_count : ℕ → ℕ → ℕ → ℕ
piece_count k l n = (n + 1 - k + (step_of k l - 1)) / step_of k l

-- l symbols, or the rest where that is shorter
abbrev pub piece : ℕ → ℕ → List ℕ → ℕ → List ℕ
piece k l read c = window l read (c * step_of k l)

-- a read of fewer than k symbols has none, and one of k to l symbols is its only one; ACGTACGT, for words of 3 in pieces of
-- 5, has the pieces ACGTA, TACGT
abbrev pub pieces : ℕ → ℕ → List ℕ → List (List ℕ)
pieces k l read = map (piece k l read) (range_with_len 0 (piece_count k l (length read)))

-- a place and its word in a text that stands from place a on
abbrev pub moved_on : ℕ → ℕ × List ℕ → ℕ × List ℕ
moved_on a p = (a + p.0, p.1)
