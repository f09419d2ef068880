-- The rows of a database, and the table that leads to them.
use Rattle.std.specs.Prelude.{ℕ, ◌+◌, ◌-◌, ◌/◌, ◌^◌, ◌<◌, nat_lt, List, ◌++◌, take, drop, count_by}
use Rattle.std.specs.List.{AllByRecursion, flat_map, range_with_len}
use Rattle.kmc_base.specs.Packed.{pack}
use Rattle.kmc_base.specs.Record.{packed_codes}
use Rattle.kmc_database.specs.Numbers.{low_first}
use Rattle.kmc_database.specs.declared.layout.Layout.{Layout}

-- the first part of a word, as a number to base 4: the first two symbols of ACGTA are AC, which is 1
abbrev pub first_part : Layout → List ℕ → ℕ
first_part l w = pack (take l.prefix w)

-- the row of a word and its count: the symbols behind the first part, four a byte, and then the count, its lowest byte first
abbrev pub row_of : Layout → List ℕ × ℕ → List ℕ
row_of l p = packed_codes (drop l.prefix p.0) ++ low_first l.counter p.1

-- the bytes of a row
abbrev pub row_long : Layout → ℕ
row_long l = (l.k - l.prefix) / 4 + l.counter

abbrev pub rows_of : Layout → List (List ℕ × ℕ) → List ℕ
rows_of l pairs = flat_map (row_of l) pairs

-- each of the words has a first part below this number
abbrev pub AreBelow : Layout → ℕ → List (List ℕ × ℕ) → Type 0
AreBelow l n pairs = AllByRecursion (λ p. first_part l p.0 < n) pairs

-- how many of the words have a first part below this number
abbrev pub number_below : Layout → List (List ℕ × ℕ) → ℕ → ℕ
number_below l pairs i = count_by (λ p. nat_lt (first_part l p.0) i) pairs

-- so many entries of the table, of eight bytes each: entry i tells how many words have a first part below i
abbrev pub entries : Layout → List (List ℕ × ℕ) → ℕ → List ℕ
entries l pairs n = flat_map (λ i. low_first 8 (number_below l pairs i)) (range_with_len 0 n)

-- an entry for each first part that there can be
abbrev pub table_of : Layout → List (List ℕ × ℕ) → List ℕ
table_of l pairs = entries l pairs (4 ^ l.prefix)

-- so many entries that are one number
abbrev pub repeated : ℕ → ℕ → List ℕ
repeated n number = flat_map (λ _. low_first 8 number) (range_with_len 0 n)
