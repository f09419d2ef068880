-- The counted places of a read.
use Rattle.std.specs.Prelude.{◌≡◌, ℕ, ◌+◌, ◌-◌, ◌<◌, ◌≤◌, if◌then◌else◌, nat_lt, List, length, map, slice_index, Option, None, Some, option_map}
use Rattle.std.specs.List.{filter_map, range_with_len}
use Rattle.kmc_base.specs.Words.{code_of, codes_of, window}
use Rattle.kmc_base.specs.Stretches.{Stretch}

-- the word at place i of a read, where the place is counted: the k bytes from i on are there, and are bases
abbrev pub word_at : ℕ → List ℕ → ℕ → Option (List ℕ)
word_at k read i = if nat_lt (length read) (i + k) then None else codes_of (window k read i)

-- the counted places with their words, rising
abbrev pub counted_words : ℕ → List ℕ → List (ℕ × List ℕ)
counted_words k read = filter_map (λ i. option_map (λ w. (i, w)) (word_at k read i)) (range_with_len 0 (length read))

-- the places of a stretch with their words, rising
abbrev pub placed_words : ℕ → Stretch → List (ℕ × List ℕ)
placed_words k s = map (λ i. (s.start + i, window k s.codes i)) (range_with_len 0 (length s.codes + 1 - k))

-- a segment of a read: at least k bases in a row, with no base right before them and none right behind
pub record IsSegment (k : ℕ) (read : List ℕ) (s : Stretch) : Type 0 where
  pub long : k ≤ length s.codes
  pub inside : s.start + length s.codes ≤ length read
  pub bases : codes_of (window (length s.codes) read s.start) ≡ Some s.codes
  pub before : (i : ℕ) → i + 1 ≡ s.start → code_of (slice_index read i) ≡ None
  pub behind : s.start + length s.codes < length read → code_of (slice_index read (s.start + length s.codes)) ≡ None
