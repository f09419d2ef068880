-- A line in hand.
use Rattle.std.specs.Prelude.{◌≡◌, ⊤, ℕ, ◌<◌, ◌^◌, List, [], length, Option, Some, None}
use Rattle.kmc_base.specs.Packed.{unpack}
use Rattle.kmc_lists.specs.Line.{line_of}
use Rattle.kmc_sum.specs.Line.{IsLineOf}
use Rattle.kmc_sum.specs.Listed.{IsLength}
use Rattle.kmc_sum.specs.declared.line.Line.{Line}
use Rattle.kmc_database.specs.declared.row_reading.Row.{Row}

-- the line of a row of k codes, or else this text
abbrev pub held_text : ℕ → Option Row → List ℕ → List ℕ
held_text k (Some r) text = line_of (unpack k r.packed, r.count)
held_text k None text = text

-- what is held as a row is a word of k codes with a count, and no text beside it
abbrev pub HoldsRow : ℕ → Option Row → List ℕ → Type 0
HoldsRow k (Some r) text = IsLength k × (r.packed < 4 ^ k) × (r.count < 2 ^ 64) × (text ≡ [])
HoldsRow k None text = ⊤

-- a line that was in hand as this text, of which nothing is left
pub record IsLineInHand (old new : List ℕ) (line : Line) : Type 0 where
  pub is : IsLineOf line old
  pub all : line.end ≡ length old
  pub none : new ≡ []
