-- The numbers of a merge.
use Rattle.std.specs.Prelude.{ℕ}

-- the bytes of the longest line: 64 letters, a tab, the 20 digits of 2^64 - 1, a line feed
abbrev pub longest_line : ℕ
longest_line = 86

-- the most files of a merge
abbrev pub most_sources : ℕ
most_sources = 1000
