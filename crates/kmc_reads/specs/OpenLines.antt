-- A text of which more may come: the lines that have their line feed, and the open one.
use Rattle.std.specs.Prelude.{ℕ, ◌==◌, if◌then◌else◌, List, [], ◌∷◌, ◌++◌}
use Rattle.std.specs.Io.BufRead.{strip_last}
use Rattle.kmc_reads.specs.Lines.{line_feed, carriage_return}

-- the contents of the lines that these bytes end, where a line is open before them
abbrev pub whole_from : List ℕ → List ℕ → List (List ℕ)
whole_from front [] = []
whole_from front (b ∷ bs) = if b == line_feed then strip_last carriage_return front ∷ whole_from [] bs else whole_from (front ++ b ∷ []) bs

-- the bytes of the line that is open behind them
abbrev pub open_from : List ℕ → List ℕ → List ℕ
open_from front [] = front
open_from front (b ∷ bs) = if b == line_feed then open_from [] bs else open_from (front ++ b ∷ []) bs

-- the contents of the lines of a text that have their line feed
abbrev pub whole_lines : List ℕ → List (List ℕ)
whole_lines text = whole_from [] text

-- the bytes behind the last line feed of a text
abbrev pub open_line : List ℕ → List ℕ
open_line text = open_from [] text

-- the line that the end of the text ends: none where it is empty
abbrev pub last_line : List ℕ → List (List ℕ)
last_line [] = []
last_line (b ∷ bs) = strip_last carriage_return (b ∷ bs) ∷ []

-- the contents of all lines, where a line is open before these bytes and the text ends behind them
abbrev pub lines_from : List ℕ → List ℕ → List (List ℕ)
lines_from front [] = last_line front
lines_from front (b ∷ bs) = if b == line_feed then strip_last carriage_return front ∷ lines_from [] bs else lines_from (front ++ b ∷ []) bs
