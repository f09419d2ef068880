-- The two files of a database.
use Rattle.std.specs.Prelude.{◌≡◌, ℕ, ◌+◌, ◌*◌, ◌/◌, ◌%◌, ◌^◌, ◌<◌, List, [], ◌∷◌, ◌++◌, length, replicate}
use Rattle.std.specs.List.{AllByRecursion}
use Rattle.kmc_base.specs.declared.strands.Strands.{Strands}
use Rattle.kmc_base.specs.declared.strands.Strands.TheVariants.{Joined, Apart}
use Rattle.kmc_sum.specs.Listed.{AreListed}
use Rattle.kmc_database.specs.Form.{greatest_told}
use Rattle.kmc_database.specs.Layout.{IsLayout}
use Rattle.kmc_database.specs.Numbers.{low_first}
use Rattle.kmc_database.specs.Rows.{entries, rows_of, table_of}
use Rattle.kmc_database.specs.declared.form.Form.{Form}
use Rattle.kmc_database.specs.declared.layout.Layout.{Layout}

-- `KMCP`, at both ends of the prefix file
abbrev pub prefix_marker : List ℕ
prefix_marker = 75 ∷ 77 ∷ 67 ∷ 80 ∷ []

-- `KMCS`, at both ends of the suffix file
abbrev pub suffix_marker : List ℕ
suffix_marker = 75 ∷ 77 ∷ 67 ∷ 83 ∷ []

-- what a header tells of how words were counted: eight bytes for the limits
abbrev pub limits_of : Form → List ℕ
limits_of f = low_first 4 f.least ++ low_first 4 (greatest_told f % 2 ^ 32)

-- 0 where a word and its reverse complement are counted together, 1 where each is by itself
abbrev pub strand_byte : Strands → ℕ
strand_byte Joined = 0
strand_byte Apart = 1

-- and 28 bytes for the strands and the high half of the greatest count
abbrev pub strands_of : Form → List ℕ
strands_of f = (strand_byte f.strands ∷ 0 ∷ 0 ∷ 0 ∷ []) ++ low_first 4 (greatest_told f / 2 ^ 32) ++ replicate 20 0

-- the end of the prefix file, 72 bytes: the symbols of a word, mode 0, the bytes of a count, the symbols of a first part, the limits, how many
-- rows there are, the strands, version 0, how long the header is, the marker
abbrev pub header_of : Layout → ℕ → List ℕ → List ℕ → List ℕ
header_of l rows limits strands =
    low_first 4 l.k ++ low_first 4 0 ++ low_first 4 l.counter ++ low_first 4 l.prefix ++ limits ++ low_first 8 rows ++ strands
    ++ low_first 4 0 ++ low_first 4 64 ++ prefix_marker

-- the prefix file with so many entries of its table
abbrev pub begun_table : Layout → List (List ℕ × ℕ) → ℕ → List ℕ
begun_table l pairs n = prefix_marker ++ entries l pairs n

-- the prefix file but for its header
abbrev pub prefix_start : Layout → List (List ℕ × ℕ) → List ℕ
prefix_start l pairs = prefix_marker ++ table_of l pairs

abbrev pub prefix_file : Form → List (List ℕ × ℕ) → List ℕ
prefix_file f pairs = prefix_start f.layout pairs ++ header_of f.layout (length pairs) (limits_of f) (strands_of f)

-- the bytes of a prefix file
abbrev pub prefix_long : Layout → ℕ
prefix_long l = 76 + 8 * 4 ^ l.prefix

-- the suffix file but for the marker at its end
abbrev pub suffix_start : Layout → List (List ℕ × ℕ) → List ℕ
suffix_start l pairs = suffix_marker ++ rows_of l pairs

abbrev pub suffix_file : Layout → List (List ℕ × ℕ) → List ℕ
suffix_file l pairs = suffix_start l pairs ++ suffix_marker

-- counts that their bytes hold
abbrev pub CountsFit : Layout → List (List ℕ × ℕ) → Type 0
CountsFit l pairs = AllByRecursion (λ p. p.1 < 256 ^ l.counter) pairs

-- these bytes are the two files of a database of these pairs
pub record IsDatabase (f : Form) (pairs : List (List ℕ × ℕ)) (prefix_bytes suffix_bytes : List ℕ) : Type 0 where
  pub layout : IsLayout f.layout
  pub listed : AreListed f.layout.k pairs
  pub fit : CountsFit f.layout pairs
  pub few : length pairs < 2 ^ 64
  pub prefix : prefix_bytes ≡ prefix_file f pairs
  pub suffix : suffix_bytes ≡ suffix_file f.layout pairs
