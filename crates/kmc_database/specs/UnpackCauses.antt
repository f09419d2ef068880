-- Why a database is not unpacked.
use Rattle.std.specs.Prelude.{◌≡◌, ◌≢◌, ℕ, ◌+◌, ◌-◌, ◌^◌, ◌<◌, ◌≤◌, ◌⊎◌, List, [], ◌∷◌, ◌++◌, length, take, Option}
use Rattle.std.specs.Io.KnownBytes.{Consumes, IsAtEnd}
use Rattle.std.specs.declared.cmp.Ordering.TheVariants.{Less}
use Rattle.kmc_base.specs.Lemmas.Keys.{IsWord}
use Rattle.kmc_base.specs.Words.{kmer_cmp}
use Rattle.kmc_device.specs.Device.{RisesByOne}
use Rattle.kmc_database.specs.Files.{prefix_marker, suffix_marker}
use Rattle.kmc_database.specs.Given.{EndsAt, HaveGiven, Starts}
use Rattle.kmc_database.specs.Header.{IsFormFault, IsHeaderOf}
use Rattle.kmc_database.specs.Numbers.{low_first}
use Rattle.kmc_database.specs.Rows.{first_part, row_long, row_of}
use Rattle.kmc_database.specs.Unpacked.{EndsInNoHeader, IsOfOtherLength}
use Rattle.kmc_database.specs.declared.reading.FormFault.{FormFault}
use Rattle.kmc_database.specs.declared.reading.Header.{Header}
use Rattle.kmc_database.specs.declared.unpack_error.UnpackError.{UnpackError}
use Rattle.kmc_database.specs.declared.unpack_error.UnpackError.TheVariants.{Form, Length, PrefixMarker, SuffixMarker, Entry, Cut, NotRising, ZeroCount, SuffixEnd, Changed, ReadPrefix, ReadSuffix, Write, Memory}

-- how many calls failed: of the first reader of the prefix file, of the second, of the reader of the suffix file and of the writer
pub record UnpackFailures : Type 0 where
  pub first : ℕ
  pub prefix : ℕ
  pub suffix : ℕ
  pub writer : ℕ

-- a file begins with other bytes than a marker of four, or has fewer
pub record BeginsOtherwise (marker : List ℕ) (start now : Option (List ℕ)) : Type 0 where
  pub bytes : List ℕ
  pub gave : Consumes start now bytes
  pub other : take 4 bytes ≢ marker
  pub enough : (4 ≤ length bytes) ⊎ IsAtEnd now

-- this entry of the table is less than the one before, or more than there are rows, or the first one and not 0
pub record IsEntryAtFault (h : Header) (s : Starts) (prefix_now suffix_now : Option (List ℕ)) (i : ℕ) : Type 0 where
  pub pairs : List (List ℕ × ℕ)
  pub entry : ℕ
  pub small : entry < 2 ^ 64
  pub more : List ℕ
  pub rest : List ℕ
  pub given : HaveGiven h.layout s i (i - 1) pairs prefix_now (low_first 8 entry ++ more) suffix_now rest
  pub fault : (entry < length pairs) ⊎ (h.rows < entry) ⊎ ((i ≡ 0) × (entry ≢ 0))

-- the suffix file ends in the row behind those of these pairs
pub record IsCutBehind (h : Header) (s : Starts) (prefix_now suffix_now : Option (List ℕ)) (pairs : List (List ℕ × ℕ)) : Type 0 where
  pub part : ℕ
  pub to : ℕ
  pub table_rest : List ℕ
  pub rest : List ℕ
  pub given : HaveGiven h.layout s (part + 1) (part + 1) pairs prefix_now table_rest suffix_now rest
  pub ends : EndsAt h.layout h.rows part to table_rest
  pub inside : length pairs < to
  pub short : length rest < row_long h.layout
  pub end : IsAtEnd suffix_now

-- the row behind those of these pairs has this word and this count, and the table puts it to the first part of the word
pub record IsNextRow (h : Header) (s : Starts) (prefix_now suffix_now : Option (List ℕ)) (pairs : List (List ℕ × ℕ)) (p : List ℕ × ℕ) : Type 0 where
  pub part : ℕ
  pub to : ℕ
  pub table_rest : List ℕ
  pub rest : List ℕ
  pub given : HaveGiven h.layout s (part + 1) (part + 1) pairs prefix_now table_rest suffix_now (row_of h.layout p ++ rest)
  pub ends : EndsAt h.layout h.rows part to table_rest
  pub inside : length pairs < to
  pub word : IsWord h.layout.k p.0
  pub first : first_part h.layout p.0 ≡ part

-- the word of this row is not above that of the row before
pub record IsRowNotRising (h : Header) (s : Starts) (prefix_now suffix_now : Option (List ℕ)) (row : ℕ) : Type 0 where
  pub pairs : List (List ℕ × ℕ)
  pub last : List ℕ × ℕ
  pub next : List ℕ × ℕ
  pub number : row ≡ length (pairs ++ last ∷ []) + 1
  pub is : IsNextRow h s prefix_now suffix_now (pairs ++ last ∷ []) next
  pub not_above : kmer_cmp last.0 next.0 ≢ Less

-- this row has a count of 0
pub record IsRowOfNone (h : Header) (s : Starts) (prefix_now suffix_now : Option (List ℕ)) (row : ℕ) : Type 0 where
  pub pairs : List (List ℕ × ℕ)
  pub word : List ℕ
  pub number : row ≡ length pairs + 1
  pub is : IsNextRow h s prefix_now suffix_now pairs (word, 0)

-- behind all rows the suffix file has not its marker, or more than that
pub record EndsOtherwise (h : Header) (s : Starts) (prefix_now suffix_now : Option (List ℕ)) : Type 0 where
  pub pairs : List (List ℕ × ℕ)
  pub table_rest : List ℕ
  pub rest : List ℕ
  pub given : HaveGiven h.layout s (4 ^ h.layout.prefix) (4 ^ h.layout.prefix) pairs prefix_now table_rest suffix_now rest
  pub all : length pairs ≡ h.rows
  pub other : rest ≢ suffix_marker
  pub enough : (4 < length rest) ⊎ IsAtEnd suffix_now

-- what is no header of this layout and so many rows
abbrev pub IsOtherHeader : List ℕ → Header → Type 0
IsOtherHeader bytes h = (length bytes ≢ 72) ⊎ ((fault : FormFault) × IsFormFault bytes fault) ⊎ ((found : Header) × IsHeaderOf bytes found × (found ≢ h))

-- the prefix file, read again, has fewer entries than its header asked for
pub record IsTableCut (h : Header) (s : Starts) (prefix_now suffix_now : Option (List ℕ)) : Type 0 where
  pub pairs : List (List ℕ × ℕ)
  pub n : ℕ
  pub table_rest : List ℕ
  pub rest : List ℕ
  pub given : HaveGiven h.layout s n (n - 1) pairs prefix_now table_rest suffix_now rest
  pub more : n < 4 ^ h.layout.prefix
  pub short : length table_rest < 8
  pub end : IsAtEnd prefix_now

-- or it has not this header behind its table, or more than that
pub record HasOtherHeader (h : Header) (s : Starts) (prefix_now suffix_now : Option (List ℕ)) : Type 0 where
  pub pairs : List (List ℕ × ℕ)
  pub table_rest : List ℕ
  pub given : HaveGiven h.layout s (4 ^ h.layout.prefix) (4 ^ h.layout.prefix) pairs prefix_now table_rest suffix_now suffix_marker
  pub other : IsOtherHeader table_rest h
  pub enough : (72 < length table_rest) ⊎ IsAtEnd prefix_now

-- why the two files, read with this header, are no database of it; or a device failed
abbrev pub IsRefusedWith : Header → Starts → Option (List ℕ) → Option (List ℕ) → UnpackFailures → UnpackFailures → UnpackError → Type 0
IsRefusedWith h s p q old new PrefixMarker = BeginsOtherwise prefix_marker s.prefix p × (new ≡ old)
IsRefusedWith h s p q old new SuffixMarker = BeginsOtherwise suffix_marker s.suffix q × (new ≡ old)
IsRefusedWith h s p q old new (Entry i) = IsEntryAtFault h s p q i × (new ≡ old)
IsRefusedWith h s p q old new (Cut row) = (pairs : List (List ℕ × ℕ)) × (row ≡ length pairs + 1) × IsCutBehind h s p q pairs × (new ≡ old)
IsRefusedWith h s p q old new (NotRising row) = IsRowNotRising h s p q row × (new ≡ old)
IsRefusedWith h s p q old new (ZeroCount row) = IsRowOfNone h s p q row × (new ≡ old)
IsRefusedWith h s p q old new SuffixEnd = EndsOtherwise h s p q × (new ≡ old)
IsRefusedWith h s p q old new Changed = (IsTableCut h s p q ⊎ HasOtherHeader h s p q) × (new ≡ old)
IsRefusedWith h s p q old new ReadPrefix =
    (new.first ≡ old.first) × RisesByOne old.prefix new.prefix × (new.suffix ≡ old.suffix) × (new.writer ≡ old.writer)
IsRefusedWith h s p q old new ReadSuffix =
    (new.first ≡ old.first) × (new.prefix ≡ old.prefix) × RisesByOne old.suffix new.suffix × (new.writer ≡ old.writer)
IsRefusedWith h s p q old new Write =
    (new.first ≡ old.first) × (new.prefix ≡ old.prefix) × (new.suffix ≡ old.suffix) × RisesByOne old.writer new.writer
IsRefusedWith h s p q old new (Form fault) = ⊥
IsRefusedWith h s p q old new Length = ⊥
IsRefusedWith h s p q old new Memory = ⊥

-- why the first reading of the prefix file finds no header; or it failed
abbrev pub IsRefusedFirst : Option (List ℕ) → Option (List ℕ) → ℕ → ℕ → UnpackError → Type 0
IsRefusedFirst start now old new (Form fault) = EndsInNoHeader start now fault × (new ≡ old)
IsRefusedFirst start now old new Length = IsOfOtherLength start now × (new ≡ old)
IsRefusedFirst start now old new ReadPrefix = RisesByOne old new
IsRefusedFirst start now old new e = ⊥
