-- The table of a database by how many of its words have each first part.
use Rattle.std.specs.Prelude.{ℕ, List, ◌++◌, length, take, sum}
use Rattle.std.specs.List.{flat_map, range_with_len}
use Rattle.kmc_database.specs.Files.{header_of, limits_of, prefix_marker, strands_of}
use Rattle.kmc_database.specs.Numbers.{low_first}
use Rattle.kmc_database.specs.declared.form.Form.{Form}

-- so many entries: entry i is the sum of the numbers before place i, as 0, 2, 7 of the numbers 2, 5, 1
abbrev pub entries_by : List ℕ → ℕ → List ℕ
entries_by sizes n = flat_map (λ i. low_first 8 (sum (take i sizes))) (range_with_len 0 n)

-- the prefix file of so many rows, by how many have each first part
abbrev pub prefix_by : Form → List ℕ → ℕ → List ℕ
prefix_by f sizes rows = (prefix_marker ++ entries_by sizes (length sizes)) ++ header_of f.layout rows (limits_of f) (strands_of f)
