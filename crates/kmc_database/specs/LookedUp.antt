-- A word, looked up in the files of a database where they stand.
use Rattle.std.specs.Prelude.{◌≡◌, ℕ, ◌-◌, ◌^◌, ◌<◌, ◌⊎◌, List, length, drop, Option, Some}
use Rattle.kmc_device.specs.Device.{RisesByOne}
use Rattle.kmc_sum.specs.Sum.{listed_count}
use Rattle.kmc_database.specs.Header.{IsHeaderOf}
use Rattle.kmc_database.specs.Layout.{IsLayout}
use Rattle.kmc_database.specs.Part.{EndsPart, entry_place, IsEntry, IsPart, row_place}
use Rattle.kmc_database.specs.Rows.{first_part}
use Rattle.kmc_database.specs.declared.look_up_error.LookUpError.{LookUpError}
use Rattle.kmc_database.specs.declared.look_up_error.LookUpError.TheVariants.{Entry, Changed, ReadPrefix, ReadSuffix}
use Rattle.kmc_database.specs.declared.reading.Header.{Header}

-- a header whose rows, all of them, have places that are counted
pub record IsReach (h : Header) : Type 0 where
  pub layout : IsLayout h.layout
  pub room : row_place h.layout h.rows < 2 ^ 64

-- the prefix file ends with this header
abbrev pub IsHeaderIn : List ℕ → Header → Type 0
IsHeaderIn prefix h = IsHeaderOf (drop (length prefix - 72) prefix) h

-- the number is the count of the word in the rows of its first part, which the table tells and which rise: 0 where they have it not
abbrev pub IsCountThere : Header → List ℕ → List ℕ → List ℕ → ℕ → Type 0
IsCountThere h prefix suffix word count =
    (from to : ℕ) (pairs : List (List ℕ × ℕ)) → IsEntry prefix (first_part h.layout word) from → EndsPart h (first_part h.layout word) prefix to
    → IsPart h.layout (first_part h.layout word) suffix from to pairs → count ≡ listed_count pairs word

-- the rows of this first part end before they begin, or behind the last row
pub record IsOutOfOrder (h : Header) (part : ℕ) (prefix : List ℕ) : Type 0 where
  pub from : ℕ
  pub to : ℕ
  pub begins : IsEntry prefix part from
  pub ends : EndsPart h part prefix to
  pub fault : (to < from) ⊎ (h.rows < to)

-- the prefix file has not all entries, or the suffix file not all rows
abbrev pub IsCutShort : Header → List ℕ → List ℕ → Type 0
IsCutShort h prefix suffix = (length prefix < entry_place (4 ^ h.layout.prefix)) ⊎ (length suffix < row_place h.layout h.rows)

-- how many reads of the prefix file and of the suffix file failed
pub record Reads : Type 0 where
  pub prefix : ℕ
  pub suffix : ℕ

-- why a word was not looked up
abbrev pub IsLookUpCause : Header → List ℕ → Option (List ℕ) → Option (List ℕ) → Reads → Reads → LookUpError → Type 0
IsLookUpCause h word prefix suffix old new (Entry part) = (part ≡ first_part h.layout word)
    × ((bytes : List ℕ) → prefix ≡ Some bytes → IsOutOfOrder h part bytes) × (new ≡ old)
IsLookUpCause h word prefix suffix old new Changed =
    ((p s : List ℕ) → prefix ≡ Some p → suffix ≡ Some s → IsCutShort h p s) × (new ≡ old)
IsLookUpCause h word prefix suffix old new ReadPrefix = RisesByOne old.prefix new.prefix × (new.suffix ≡ old.suffix)
IsLookUpCause h word prefix suffix old new ReadSuffix = (new.prefix ≡ old.prefix) × RisesByOne old.suffix new.suffix

-- why the rows of a first part were not found
abbrev pub IsRangeCause : Header → ℕ → Option (List ℕ) → ℕ → ℕ → LookUpError → Type 0
IsRangeCause h part prefix failed fails (Entry number) =
    (number ≡ part) × ((bytes : List ℕ) → prefix ≡ Some bytes → IsOutOfOrder h part bytes) × (fails ≡ failed)
IsRangeCause h part prefix failed fails Changed =
    ((bytes : List ℕ) → prefix ≡ Some bytes → length bytes < entry_place (4 ^ h.layout.prefix)) × (fails ≡ failed)
IsRangeCause h part prefix failed fails ReadPrefix = RisesByOne failed fails
IsRangeCause h part prefix failed fails ReadSuffix = ⊥
