-- What several threads count of a body: lists of items, and of their words the shares of the threads.
use Rattle.std.specs.Prelude.{ℕ, ◌/◌, ◌&&◌, Bool, if◌then◌else◌, nat_le, List}
use Rattle.std.specs.List.{All}
use Rattle.std.specs.List.Sorted.{IsSorted}
use Rattle.std.specs.Ordering.{nat_cmp}
use Rattle.kmc_base.specs.declared.strands.Strands.{Strands}
use Rattle.kmc_base.specs.Packed.{pack}
use Rattle.kmc_base.specs.Weights.{items, AreItems}
use Rattle.kmc_count.specs.declared.limits.Limits.{Limits}
use Rattle.kmc_count.specs.Occurrences.{weight_of}
use Rattle.kmc_count.specs.Dump.{IsDump}
use Rattle.kmc_count.specs.Bodies.{AreItemsOfBody}
use Rattle.kmc_count.specs.Merge.{joined}
use Rattle.kmc_lists.specs.Listed.{Listed, pairs_of, IsListOf}

-- a number from the first to the last
abbrev pub is_from : ℕ → ℕ → ℕ → Bool
is_from first last n = nat_le first n && nat_le n last

-- an item whose word, above bits of this weight, is from the first to the last
abbrev pub has_word_from : ℕ → ℕ → ℕ → ℕ → Bool
has_word_from weight first last n = is_from first last (n / weight)

-- what a count says of the words from the first to the last, as packed numbers, and nothing of the others
abbrev pub of_share : ℕ → ℕ → (List ℕ → ℕ) → List ℕ → ℕ
of_share first last count x = if is_from first last (pack x) then count x else 0

-- lists of items of words of k codes, each of which rises
pub record AreSortedItems (k f : ℕ) (lists : List (List ℕ)) : Type 0 where
  pub sorted : All (IsSorted nat_cmp) lists
  pub fit : AreItems k f (joined lists)

-- lists that rise; together they are the items of a body
pub record AreListsOfItems (strands : Strands) (k f : ℕ) (body : List ℕ) (lists : List (List ℕ)) : Type 0 where
  pub sorted : All (IsSorted nat_cmp) lists
  pub are : AreItemsOfBody strands k f body (joined lists)

-- the dump of a share of the words of items
pub record IsDumpOfShare (k f : ℕ) (l : Limits) (first last : ℕ) (lists : List (List ℕ)) (c : Listed) : Type 0 where
  pub is : IsListOf k c
  pub dump : IsDump (of_share first last (weight_of (items k f (joined lists)))) l (pairs_of c)
