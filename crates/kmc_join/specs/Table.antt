-- How many words have which counts in two dumps.
use Rattle.std.specs.Prelude.{◌≡◌, ◌≤◌, ◌+◌, ◌==◌, ◌&&◌, ◌++◌, ℕ, min, List, [], ◌∷◌, Option, map, decimal, count_by}
use Rattle.std.specs.Io.KnownBytes.{Appends}
use Rattle.std.specs.List.{AllByRecursion, Contains, flat_map}
use Rattle.std.specs.List.Sorted.{IsStrictlySortedBy}
use Rattle.std.specs.Ordering.{nat_cmp, ordering_then}
use Rattle.std.specs.declared.cmp.Ordering.{Ordering}
use Rattle.kmc_base.specs.Words.{kmer_cmp}
use Rattle.kmc_device.specs.Device.{AppendsFront, GaveAll}
use Rattle.kmc_sum.specs.Listed.{IsLength, Lists}
use Rattle.kmc_sum.specs.Sources.{left_at}
use Rattle.kmc_sum.specs.Sum.{listed_count}
use Rattle.kmc_join.specs.Rows.{AreNumbered}

-- exactly the words that either list has, rising, each with its counts in the first and in the second, of which 0 says that the list does
-- not have it: of AC 2, CA 5 and CA 3, TT 1 the rows (AC, 2, 0), (CA, 5, 3), (TT, 0, 1)
pub record AreBeside (left right : List (List ℕ × ℕ)) (words : List (List ℕ × ℕ × ℕ)) : Type 0 where
  pub rising : IsStrictlySortedBy kmer_cmp (map (λ w. w.0) words)
  pub each : AllByRecursion (λ w. (w.1 ≡ listed_count left w.0) × (w.2 ≡ listed_count right w.0) × (1 ≤ w.1 + w.2)) words
  pub all : (x : List ℕ) → 1 ≤ listed_count left x + listed_count right x → Contains (map (λ w. w.0) words) x

-- how many of the words have these two counts, where a count above the cap is taken for the cap
abbrev pub number_of_both : ℕ → List (List ℕ × ℕ × ℕ) → ℕ × ℕ → ℕ
number_of_both cap words counts = count_by (λ w. (min w.1 cap == counts.0) && (min w.2 cap == counts.1)) words

-- by the first count, and where that is the same by the second
abbrev pub counts_cmp : ℕ × ℕ → ℕ × ℕ → Ordering
counts_cmp a b = ordering_then (nat_cmp a.0 b.0) (nat_cmp a.1 b.1)

-- exactly the two counts that words have, rising, each with how many words have them: of the words above the rows ((0, 1), 1),
-- ((2, 0), 1), ((5, 3), 1)
abbrev pub IsTable : ℕ → List (List ℕ × ℕ × ℕ) → List ((ℕ × ℕ) × ℕ) → Type 0
IsTable cap words rows = AreNumbered counts_cmp (number_of_both cap words) rows

-- the two counts, a number, with tabs between and a line feed: ((5, 3), 17) is `5`, byte 9, `3`, byte 9, `17`, byte 10
abbrev pub table_row : (ℕ × ℕ) × ℕ → List ℕ
table_row r = decimal r.0.0 ++ 9 ∷ (decimal r.0.1 ++ 9 ∷ (decimal r.1 ++ 10 ∷ []))

abbrev pub table_text : List ((ℕ × ℕ) × ℕ) → List ℕ
table_text rows = flat_map table_row rows

-- what the two readers gave to their ends are the texts of dumps, with these pairs, of words of one length
pub record GaveDumps (starts nows : List (Option (List ℕ))) (left right : List (List ℕ × ℕ)) : Type 0 where
  pub first : List ℕ
  pub second : List ℕ
  pub first_gave : GaveAll (left_at starts 0) (left_at nows 0) first
  pub second_gave : GaveAll (left_at starts 1) (left_at nows 1) second
  pub k : ℕ
  pub long : IsLength k
  pub first_lists : Lists k first left
  pub second_lists : Lists k second right

-- this is the table of what the two readers gave
pub record IsTableOf (cap : ℕ) (starts nows : List (Option (List ℕ))) (rows : List ((ℕ × ℕ) × ℕ)) : Type 0 where
  pub left : List (List ℕ × ℕ)
  pub right : List (List ℕ × ℕ)
  pub gave : GaveDumps starts nows left right
  pub words : List (List ℕ × ℕ × ℕ)
  pub beside : AreBeside left right words
  pub table : IsTable cap words rows

-- it was written
abbrev pub IsTableWritten : ℕ → List (Option (List ℕ)) → List (Option (List ℕ)) → Option (List ℕ) → Option (List ℕ) → Type 0
IsTableWritten cap starts nows old new = (rows : List ((ℕ × ℕ) × ℕ)) × IsTableOf cap starts nows rows × Appends old new (table_text rows)

-- a front of it was written
abbrev pub IsTableBegun : ℕ → List (Option (List ℕ)) → List (Option (List ℕ)) → Option (List ℕ) → Option (List ℕ) → Type 0
IsTableBegun cap starts nows old new = (rows : List ((ℕ × ℕ) × ℕ)) × IsTableOf cap starts nows rows × AppendsFront old new (table_text rows)
