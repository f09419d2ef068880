-- What the two files of a database gave, while their rows are read.
use Rattle.std.specs.Prelude.{◌≡◌, ℕ, ◌+◌, ◌^◌, ◌≤◌, ◌⊎◌, List, ◌++◌, Option}
use Rattle.std.specs.Io.KnownBytes.{Consumes}
use Rattle.kmc_device.specs.Device.{AppendsFront}
use Rattle.kmc_lists.specs.Line.{text_of}
use Rattle.kmc_sum.specs.Listed.{AreListed}
use Rattle.kmc_database.specs.Files.{begun_table, CountsFit, suffix_start}
use Rattle.kmc_database.specs.Numbers.{low_first}
use Rattle.kmc_database.specs.Rows.{AreBelow}
use Rattle.kmc_database.specs.declared.layout.Layout.{Layout}

-- what the readers of the prefix file and of the suffix file had at first, and what the writer held
pub record Starts : Type 0 where
  pub prefix : Option (List ℕ)
  pub suffix : Option (List ℕ)
  pub written : Option (List ℕ)

-- the prefix file gave its marker, n entries of the table of these pairs and then a rest; the suffix file gave its marker, the rows of
-- the pairs and then a rest; and each word has a first part below m
pub record HaveGiven (l : Layout) (s : Starts) (n m : ℕ) (pairs : List (List ℕ × ℕ)) (prefix_now : Option (List ℕ)) (table_rest : List ℕ)
    (suffix_now : Option (List ℕ)) (rest : List ℕ) : Type 0 where
  pub listed : AreListed l.k pairs
  pub fit : CountsFit l pairs
  pub below : AreBelow l m pairs
  pub table : Consumes s.prefix prefix_now (begun_table l pairs n ++ table_rest)
  pub rows : Consumes s.suffix suffix_now (suffix_start l pairs ++ rest)

-- the rows of a first part end at this one: so tells the next entry of the table, or it is the last first part
abbrev pub EndsAt : Layout → ℕ → ℕ → ℕ → List ℕ → Type 0
EndsAt l total part to table_rest =
    ((more : List ℕ) × (table_rest ≡ low_first 8 to ++ more) × (to ≤ total)) ⊎ ((part + 1 ≡ 4 ^ l.prefix) × (to ≡ total))

-- a front of the dump of pairs that the files gave first was written
pub record IsUnpackBegun (s : Starts) (prefix_now suffix_now written_now : Option (List ℕ)) : Type 0 where
  pub layout : Layout
  pub n : ℕ
  pub m : ℕ
  pub pairs : List (List ℕ × ℕ)
  pub table_rest : List ℕ
  pub rest : List ℕ
  pub given : HaveGiven layout s n m pairs prefix_now table_rest suffix_now rest
  pub text : AppendsFront s.written written_now (text_of pairs)
