use Rattle.std.proofs.Common.{ℕ, List, [], ◌∷◌, refl, sym, subst}
use Rattle.std.specs.List.Sorted.{IsStrictlySortedBy}
use Rattle.std.proofs.lemmas.List.Elements.{All-from_recursion}
use Rattle.kmc_base.specs.Words.{kmer_cmp}
use Rattle.kmc_count.specs.Dump.{words_of}
use Rattle.kmc_count.specs.Merge.{EachRises}
use Rattle.test_runs.proofs.tests.counting.bins.merges_the_lists_of_bins.Goals as goal

abbrev the_lists : List (List (List ℕ × ℕ))
the_lists = ((2 ∷ [], 3) ∷ []) ∷ [] ∷ ((0 ∷ [], 2) ∷ (3 ∷ [], 1) ∷ []) ∷ []

rise : EachRises the_lists
unfolding IsStrictlySortedBy
rise = All-from_recursion (λ (pairs : List (List ℕ × ℕ)). IsStrictlySortedBy kmer_cmp (words_of pairs)) the_lists ((tt, tt), (tt, (((refl, tt), (tt, tt)), tt)))

pub merge_bins-requires-clause-rise : goal.merge_bins-requires-clause-rise
merge_bins-requires-clause-rise g c = subst EachRises (sym c.in_ok-lists.ensures) rise
