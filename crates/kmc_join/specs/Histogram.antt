-- How many words of a dump have each count.
use Rattle.std.specs.Prelude.{◌==◌, ◌++◌, ℕ, List, [], ◌∷◌, Option, decimal, count_by}
use Rattle.std.specs.Io.KnownBytes.{Appends}
use Rattle.std.specs.List.{flat_map}
use Rattle.std.specs.Ordering.{nat_cmp}
use Rattle.kmc_device.specs.Device.{AppendsFront, GaveAll}
use Rattle.kmc_sum.specs.Listed.{IsLength, Lists}
use Rattle.kmc_join.specs.Rows.{AreNumbered}

-- how many of the pairs have this number
abbrev pub number_with : List (List ℕ × ℕ) → ℕ → ℕ
number_with pairs n = count_by (λ p. p.1 == n) pairs

-- exactly the numbers that pairs have, rising, each with how many pairs have it: of (AC, 2), (CA, 5), (TT, 2) the rows (2, 2), (5, 1)
abbrev pub IsHistogram : List (List ℕ × ℕ) → List (ℕ × ℕ) → Type 0
IsHistogram pairs rows = AreNumbered nat_cmp (number_with pairs) rows

-- a number, a tab, a number, a line feed: (2, 17) is `2`, byte 9, `17`, byte 10
abbrev pub row_of : ℕ × ℕ → List ℕ
row_of r = decimal r.0 ++ 9 ∷ (decimal r.1 ++ 10 ∷ [])

abbrev pub rows_text : List (ℕ × ℕ) → List ℕ
rows_text rows = flat_map row_of rows

-- what the reader gave to its end is the text of a dump, with these pairs
pub record GaveDump (start now : Option (List ℕ)) (pairs : List (List ℕ × ℕ)) : Type 0 where
  pub text : List ℕ
  pub gave : GaveAll start now text
  pub k : ℕ
  pub long : IsLength k
  pub lists : Lists k text pairs

-- the histogram of what the reader gave was written
pub record IsHistogramWritten (start now old new : Option (List ℕ)) : Type 0 where
  pub pairs : List (List ℕ × ℕ)
  pub gave : GaveDump start now pairs
  pub rows : List (ℕ × ℕ)
  pub histogram : IsHistogram pairs rows
  pub text : Appends old new (rows_text rows)

-- a front of it was written
pub record IsHistogramBegun (start now old new : Option (List ℕ)) : Type 0 where
  pub pairs : List (List ℕ × ℕ)
  pub gave : GaveDump start now pairs
  pub rows : List (ℕ × ℕ)
  pub histogram : IsHistogram pairs rows
  pub text : AppendsFront old new (rows_text rows)
