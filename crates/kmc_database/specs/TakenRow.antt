-- A row that is taken from a file.
use Rattle.std.specs.Prelude.{◌≡◌, ℕ, ◌^◌, ◌<◌, List, ◌++◌, Option}
use Rattle.kmc_base.specs.Packed.{unpack}
use Rattle.kmc_sum.specs.Source.{GoesOn}
use Rattle.kmc_database.specs.Rows.{first_part, row_of}
use Rattle.kmc_database.specs.declared.layout.Layout.{Layout}
use Rattle.kmc_database.specs.declared.row_reading.Row.{Row}

-- the pair of a row
abbrev pub pair_of_row : Layout → Row → List ℕ × ℕ
pair_of_row l row = (unpack l.k row.packed, row.count)

-- the reader went on by some bytes, and the row of a word with this first part was taken
pub record IsTakenRow (l : Layout) (part : ℕ) (old new : Option (List ℕ)) (before after : List ℕ) (row : Row) : Type 0 where
  pub goes : GoesOn old new before (row_of l (pair_of_row l row) ++ after)
  pub fits : row.packed < 4 ^ l.k
  pub first : first_part l (unpack l.k row.packed) ≡ part
  pub small : row.count < 256 ^ l.counter
