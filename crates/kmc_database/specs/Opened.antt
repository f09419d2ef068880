-- A database that is opened, so that words are looked up in it.
use Rattle.std.specs.Prelude.{◌≡◌, ◌≢◌, ℕ, ◌+◌, ◌-◌, ◌*◌, ◌<◌, ◌≤◌, ◌⊎◌, Bool, true, false, List, drop, length, slice_index, Option, Some}
use Rattle.kmc_device.specs.Device.{RisesByOne}
use Rattle.kmc_database.specs.Files.{prefix_long, prefix_marker, strand_byte, suffix_marker}
use Rattle.kmc_database.specs.Header.{IsFormFault, IsHeaderOf}
use Rattle.kmc_database.specs.LookedUp.{IsHeaderIn, Reads}
use Rattle.kmc_database.specs.Numbers.{low_first}
use Rattle.kmc_database.specs.Part.{StandsAt}
use Rattle.kmc_database.specs.Rows.{row_long}
use Rattle.kmc_database.specs.declared.open_error.OpenError.{OpenError}
use Rattle.kmc_database.specs.declared.open_error.OpenError.TheVariants.{Form, PrefixLength, Strands, PrefixMarker}
use Rattle.kmc_database.specs.declared.open_error.OpenError.TheVariants.{SuffixLength, SuffixMarker, Changed, ReadPrefix, ReadSuffix}
use Rattle.kmc_database.specs.declared.opening.OpenDatabase.{OpenDatabase}
use Rattle.kmc_database.specs.declared.reading.Header.{Header}

-- the last 72 bytes of a file, or all where it has fewer
abbrev pub last_of : List ℕ → List ℕ
last_of bytes = drop (length bytes - 72) bytes

-- the bytes of a suffix file
abbrev pub suffix_long : Header → ℕ
suffix_long h = 8 + h.rows * row_long h.layout

-- byte 32 of a header
abbrev pub strands_told : List ℕ → ℕ
strands_told header = slice_index header 32

-- a file of so many bytes ends with these 72, which tell of this database
pub record IsEnd (last : List ℕ) (size : ℕ) (o : OpenDatabase) : Type 0 where
  pub header : IsHeaderOf last o.header
  pub long : size ≡ prefix_long o.header.layout
  pub strands : strands_told last ≡ strand_byte o.strands

-- why they tell of none
abbrev pub IsEndFault : List ℕ → ℕ → OpenError → Type 0
IsEndFault last size (Form fault) = IsFormFault last fault
IsEndFault last size PrefixLength = (h : Header) × IsHeaderOf last h × (size ≢ prefix_long h.layout)
IsEndFault last size Strands = 1 < strands_told last
IsEndFault last size PrefixMarker = ⊥
IsEndFault last size SuffixLength = ⊥
IsEndFault last size SuffixMarker = ⊥
IsEndFault last size Changed = ⊥
IsEndFault last size ReadPrefix = ⊥
IsEndFault last size ReadSuffix = ⊥

-- these are the bytes of a prefix file, but for its table
pub record IsPrefixFile (bytes : List ℕ) (o : OpenDatabase) : Type 0 where
  pub end : IsEnd (last_of bytes) (length bytes) o
  pub begins : StandsAt bytes 0 prefix_marker

-- these are the bytes of a suffix file, but for its rows
pub record IsSuffixFile (bytes : List ℕ) (h : Header) : Type 0 where
  pub long : length bytes ≡ suffix_long h
  pub begins : StandsAt bytes 0 suffix_marker
  pub ends : StandsAt bytes (length bytes - 4) suffix_marker

-- whether four bytes, as a number, stand at a place of a file
abbrev pub IsMarked : List ℕ → ℕ → ℕ → Bool → Type 0
IsMarked bytes place marker true = StandsAt bytes place (low_first 4 marker)
IsMarked bytes place marker false = StandsAt bytes place (low_first 4 marker) → ⊥

-- a suffix file does not begin with its marker, or does not end with it
abbrev pub IsUnmarked : List ℕ → Type 0
IsUnmarked suffix = (StandsAt suffix 0 suffix_marker → ⊥) ⊎ (StandsAt suffix (length suffix - 4) suffix_marker → ⊥)

-- why a database was not opened; a file whose bytes are known does not change
abbrev pub IsOpenCause : Option (List ℕ) → Option (List ℕ) → Reads → Reads → OpenError → Type 0
IsOpenCause prefix suffix old new (Form fault) =
    ((p : List ℕ) → prefix ≡ Some p → (72 ≤ length p) × IsEndFault (last_of p) (length p) (Form fault)) × (new ≡ old)
IsOpenCause prefix suffix old new PrefixLength =
    ((p : List ℕ) → prefix ≡ Some p → (length p < 72) ⊎ IsEndFault (last_of p) (length p) PrefixLength) × (new ≡ old)
IsOpenCause prefix suffix old new Strands =
    ((p : List ℕ) → prefix ≡ Some p → (72 ≤ length p) × IsEndFault (last_of p) (length p) Strands) × (new ≡ old)
IsOpenCause prefix suffix old new PrefixMarker = ((p : List ℕ) → prefix ≡ Some p → StandsAt p 0 prefix_marker → ⊥) × (new ≡ old)
IsOpenCause prefix suffix old new SuffixLength =
    ((p s : List ℕ) → prefix ≡ Some p → suffix ≡ Some s → (h : Header) × IsHeaderIn p h × (length s ≢ suffix_long h)) × (new ≡ old)
IsOpenCause prefix suffix old new SuffixMarker = ((s : List ℕ) → suffix ≡ Some s → IsUnmarked s) × (new ≡ old)
IsOpenCause prefix suffix old new Changed = ((p : List ℕ) → prefix ≡ Some p → ⊥) × (new ≡ old)
IsOpenCause prefix suffix old new ReadPrefix = RisesByOne old.prefix new.prefix × (new.suffix ≡ old.suffix)
IsOpenCause prefix suffix old new ReadSuffix = (new.prefix ≡ old.prefix) × RisesByOne old.suffix new.suffix
