-- A source of lines: a reader, and the bytes that it gave and that are not yet judged.
use Rattle.std.specs.Prelude.{◌≡◌, ℕ, ◌-◌, ◌≤◌, ◌⊎◌, List, ◌++◌, length, take, drop, Option}
use Rattle.std.specs.Io.KnownBytes.{Consumes, IsAtEnd}
use Rattle.kmc_sum.specs.declared.line.Line.{Line}
use Rattle.kmc_sum.specs.declared.source.Room.{Room}
use Rattle.kmc_sum.specs.Line.{IsLineOf}
use Rattle.kmc_sum.specs.Numbers.{longest_line}

-- the bytes of a room that are not yet judged
abbrev pub unread : Room → List ℕ
unread r = take (r.to - r.from) (drop r.from r.bytes.items)

-- a room has place for the longest line
pub record IsRoom (r : Room) : Type 0 where
  pub order : r.from ≤ r.to
  pub inside : r.to ≤ length r.bytes.items
  pub place : longest_line ≤ length r.bytes.items

-- enough of the bytes is here to tell a line: the longest one, or all that is left
abbrev pub IsEnough : List ℕ → Option (List ℕ) → Type 0
IsEnough rest now = (longest_line ≤ length rest) ⊎ IsAtEnd now

-- the reader went on by some bytes, with which these became those
pub record GoesOn (old new : Option (List ℕ)) (before after : List ℕ) : Type 0 where
  pub bytes : List ℕ
  pub gave : Consumes old new bytes
  pub are : after ≡ before ++ bytes

-- the reader handed out a line, whose bytes it went on by
pub record HandsOut (old new : Option (List ℕ)) (line : Line) : Type 0 where
  pub text : List ℕ
  pub gave : Consumes old new text
  pub is : IsLineOf line text
  pub all : line.end ≡ length text
