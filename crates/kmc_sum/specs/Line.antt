-- One line of a dump at the front of bytes.
use Rattle.std.specs.Prelude.{◌≡◌, ℕ, ◌<◌, ◌≤◌, ◌^◌, List, length, take, map, slice_index}
use Rattle.kmc_base.specs.Words.{letter}
use Rattle.kmc_base.specs.Packed.{unpack}
use Rattle.kmc_lists.specs.Line.{line_of}
use Rattle.kmc_sum.specs.Listed.{IsLength}
use Rattle.kmc_sum.specs.declared.line.Line.{Line}

-- A, C, G or T: 67 is C, and 99 is none
abbrev pub IsLetter : ℕ → Type 0
IsLetter b = (c : ℕ) × (c < 4) × (letter c ≡ b)

-- so many bytes at the front are letters, whose codes are packed in this number
pub record AreLetters (n packed : ℕ) (bytes : List ℕ) : Type 0 where
  pub within : n ≤ length bytes
  pub fits : packed < 4 ^ n
  pub word : take n bytes ≡ map letter (unpack n packed)
  pub each : (i : ℕ) → i < n → IsLetter (slice_index bytes i)

-- the pair of a line
abbrev pub pair_of : Line → List ℕ × ℕ
pair_of l = (unpack l.k l.packed, l.count)

-- the front of the bytes is the line of this word and count
pub record IsLineOf (l : Line) (bytes : List ℕ) : Type 0 where
  pub long : IsLength l.k
  pub fits : l.packed < 4 ^ l.k
  pub some : 1 ≤ l.count
  pub most : l.count < 2 ^ 64
  pub within : l.end ≤ length bytes
  pub is : take l.end bytes ≡ line_of (pair_of l)
