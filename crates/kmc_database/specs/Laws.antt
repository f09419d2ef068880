-- Laws of databases.
use Rattle.std.specs.Prelude.{◌≡◌, ℕ, ◌<◌, ◌^◌, List, ◌++◌, length, Option, Some}
use Rattle.std.specs.Io.KnownBytes.{Appends}
use Rattle.kmc_lists.specs.Line.{text_of}
use Rattle.kmc_sum.specs.Listed.{AreListed, Lists}
use Rattle.kmc_database.specs.DumpText.{text_of_files}
use Rattle.kmc_database.specs.Files.{CountsFit, IsDatabase, prefix_start, suffix_file}
use Rattle.kmc_database.specs.Header.{IsHeaderOf}
use Rattle.kmc_database.specs.Layout.{IsLayout}
use Rattle.kmc_database.specs.Unpacked.{IsUnpacked}
use Rattle.kmc_database.specs.declared.form.Form.{Form}
use Rattle.kmc_database.specs.declared.reading.Header.{Header}

-- the two files of a database tell its pairs and its layout: what lists other pairs, or lists them otherwise, has other files
abbrev pub PackedIsReadBack : Type 0
PackedIsReadBack = (f g : Form) (pairs others : List (List ℕ × ℕ)) (prefix_bytes suffix_bytes : List ℕ)
    → IsDatabase f pairs prefix_bytes suffix_bytes → IsDatabase g others prefix_bytes suffix_bytes → (pairs ≡ others) × (f.layout ≡ g.layout)

-- what is unpacked of the two files of a database is the dump of its pairs, and nothing else
abbrev pub UnpackedIsDump : Type 0
UnpackedIsDump = (f : Form) (pairs : List (List ℕ × ℕ)) (prefix_bytes suffix_bytes : List ℕ) → IsDatabase f pairs prefix_bytes suffix_bytes
    → (first_old first_new prefix_now suffix_now old new : Option (List ℕ)) (rows : ℕ)
    → IsUnpacked first_old first_new (record { prefix = Some prefix_bytes; suffix = Some suffix_bytes; written = old }) prefix_now suffix_now new rows
    → (rows ≡ length pairs) × Appends old new (text_of pairs)

-- these bytes are the two files of a database of these pairs, with this header
pub record AreFilesOf (h : Header) (pairs : List (List ℕ × ℕ)) (prefix_bytes suffix_bytes : List ℕ) : Type 0 where
  pub listed : AreListed h.layout.k pairs
  pub count : h.rows ≡ length pairs
  pub fit : CountsFit h.layout pairs
  pub header : List ℕ
  pub told : IsHeaderOf header h
  pub prefix : prefix_bytes ≡ prefix_start h.layout pairs ++ header
  pub suffix : suffix_bytes ≡ suffix_file h.layout pairs

-- two files whose text lists pairs are a database of these pairs, and nothing else
abbrev pub TextTellsDatabase : Type 0
TextTellsDatabase = (h : Header) (k : ℕ) (pairs : List (List ℕ × ℕ)) (prefix_bytes suffix_bytes : List ℕ) → IsLayout h.layout → h.rows < 2 ^ 64
    → Lists k (text_of_files h prefix_bytes suffix_bytes) pairs → AreFilesOf h pairs prefix_bytes suffix_bytes

-- and the text of the two files of a database is the dump of its pairs
abbrev pub DatabaseTellsText : Type 0
DatabaseTellsText = (h : Header) (pairs : List (List ℕ × ℕ)) (prefix_bytes suffix_bytes : List ℕ) → IsLayout h.layout → h.rows < 2 ^ 64
    → AreFilesOf h pairs prefix_bytes suffix_bytes → text_of_files h prefix_bytes suffix_bytes ≡ text_of pairs

-- so it is where the files were packed
abbrev pub PackedTellsText : Type 0
PackedTellsText = (f : Form) (pairs : List (List ℕ × ℕ)) (prefix_bytes suffix_bytes : List ℕ) → IsDatabase f pairs prefix_bytes suffix_bytes
    → text_of_files (record { layout = f.layout; rows = length pairs }) prefix_bytes suffix_bytes ≡ text_of pairs
