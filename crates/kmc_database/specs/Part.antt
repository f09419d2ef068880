-- The rows of one first part, and what tells where they stand.
use Rattle.std.specs.Prelude.{◌≡◌, ℕ, ◌+◌, ◌*◌, ◌^◌, ◌<◌, ◌⊎◌, Bool, true, false, List, drop, length}
use Rattle.std.specs.List.{AllByRecursion}
use Rattle.kmc_base.specs.Packed.{unpack}
use Rattle.kmc_device.specs.Device.{IsFront}
use Rattle.kmc_sum.specs.Listed.{AreListed}
use Rattle.kmc_database.specs.Files.{CountsFit}
use Rattle.kmc_database.specs.Numbers.{low_first}
use Rattle.kmc_database.specs.Rows.{first_part, row_long, row_of, rows_of}
use Rattle.kmc_database.specs.TakenRow.{pair_of_row}
use Rattle.kmc_database.specs.declared.layout.Layout.{Layout}
use Rattle.kmc_database.specs.declared.reading.Header.{Header}
use Rattle.kmc_database.specs.declared.row_reading.Row.{Row}

-- these bytes stand at a place of a file
abbrev pub StandsAt : List ℕ → ℕ → List ℕ → Type 0
StandsAt bytes place part = IsFront part (drop place bytes)

-- where a part of a file was asked for: it stands in the buffer, or the file has fewer bytes
abbrev pub IsReadAt : List ℕ → ℕ → List ℕ → Bool → Type 0
IsReadAt bytes place buffer true = StandsAt bytes place buffer
IsReadAt bytes place buffer false = length bytes < place + length buffer

-- where an entry stands in the prefix file
abbrev pub entry_place : ℕ → ℕ
entry_place number = 4 + 8 * number

-- where a row, numbered from 0, stands in the suffix file
abbrev pub row_place : Layout → ℕ → ℕ
row_place l row = 4 + row * row_long l

-- the row of a word with this first part stands there
pub record IsRowAt (l : Layout) (part : ℕ) (bytes : List ℕ) (number : ℕ) (row : Row) : Type 0 where
  pub stands : StandsAt bytes (row_place l number) (row_of l (pair_of_row l row))
  pub fits : row.packed < 4 ^ l.k
  pub first : first_part l (unpack l.k row.packed) ≡ part
  pub small : row.count < 256 ^ l.counter

-- the rows from one to another are those of these pairs, which rise and have this first part
pub record IsPart (l : Layout) (part : ℕ) (bytes : List ℕ) (from to : ℕ) (pairs : List (List ℕ × ℕ)) : Type 0 where
  pub listed : AreListed l.k pairs
  pub fit : CountsFit l pairs
  pub first : AllByRecursion (λ p. first_part l p.0 ≡ part) pairs
  pub count : from + length pairs ≡ to
  pub rows : StandsAt bytes (row_place l from) (rows_of l pairs)

-- an entry of the table
pub record IsEntry (bytes : List ℕ) (number entry : ℕ) : Type 0 where
  pub small : entry < 2 ^ 64
  pub stands : StandsAt bytes (entry_place number) (low_first 8 entry)

-- the rows of a first part end at this one: so tells the next entry of the table, or it is the last first part
abbrev pub EndsPart : Header → ℕ → List ℕ → ℕ → Type 0
EndsPart h part bytes to = (IsEntry bytes (part + 1) to × (part + 1 < 4 ^ h.layout.prefix)) ⊎ ((part + 1 ≡ 4 ^ h.layout.prefix) × (to ≡ h.rows))
