-- The list of all keys holds each word as often as it has places.
use Rattle.std.proofs.Common.{◌≡◌, ℕ, ◌+◌, ◌<◌, ◌^◌, All, cond, List, [], ◌∷◌, length, map, Option, None, Some, refl, sym, ap, subst, ◌∙◌, zero-add}
use Rattle.std.specs.Option.{option_map}
use Rattle.std.specs.List.{filter_map, flat_map, cons_option, count_by, range_with_len}
use Rattle.std.proofs.lemmas.List.Sums.{sum_by-cons, sum_by-append}
use Rattle.std.proofs.lemmas.List.Sorted.{sum_by-IsPermutation, All-permutation}
use Rattle.std.specs.List.Sorted.{IsPermutation}
use Rattle.kmc_base.specs.Packed.{pack, unpack}
use Rattle.kmc_base.specs.Lemmas.Keys.{AreWords, unpack_all, packs_fit}
use Rattle.kmc_count.specs.Lemmas.PackedRuns.{occurrences_packed}
use Rattle.kmc_base.specs.declared.strands.Strands.{Strands}
use Rattle.kmc_base.specs.Places.{word_at, counted_words}
use Rattle.kmc_base.specs.Strands.{key, placed_key}
use Rattle.kmc_count.specs.Occurrences.{same_word, occurrences, is_key_of, count_of}

-- the keys of the words at the counted places of all reads
abbrev pub keys_of_reads : Strands → ℕ → List (List ℕ) → List (List ℕ)
keys_of_reads strands k reads = flat_map (λ read. map (placed_key strands) (counted_words k read)) reads

module _ (strands : Strands) (k : ℕ) (x : List ℕ) where
  one_place : (i : ℕ) (o : Option (List ℕ)) (ps : List (ℕ × List ℕ))
      → occurrences (map (placed_key strands) (cons_option (option_map (λ w. (i, w)) o) ps)) x ≡ cond (is_key_of strands x o) 1 0 + occurrences
      (map (placed_key strands) ps) x
  one_place i None ps = sym (zero-add (occurrences (map (placed_key strands) ps) x))
  one_place i (Some w) ps = sum_by-cons (λ (v : List ℕ). cond (same_word v x) 1 0) (key strands w) (map (placed_key strands) ps)

  of_places : (read : List ℕ) (is : List ℕ)
      → occurrences (map (placed_key strands) (filter_map (λ i. option_map (λ w. (i, w)) (word_at k read i)) is)) x ≡ count_by
      (λ i. is_key_of strands x (word_at k read i)) is
  of_places read [] = refl
  of_places read (i ∷ is) =
      one_place i (word_at k read i) _ ∙ ap (λ n. cond (is_key_of strands x (word_at k read i)) 1 0 + n) (of_places read is)
      ∙ sym (sum_by-cons (λ (j : ℕ). cond (is_key_of strands x (word_at k read j)) 1 0) i is)

  pub of_reads : (reads : List (List ℕ)) → occurrences (keys_of_reads strands k reads) x ≡ count_of strands k reads x
  of_reads [] = refl
  of_reads (read ∷ reads) =
      sum_by-append (λ (v : List ℕ). cond (same_word v x) 1 0) (map (placed_key strands) (counted_words k read)) (keys_of_reads strands k reads)
      ∙ (λ j. of_places read (range_with_len 0 (length read)) j + of_reads reads j)
      ∙ sym (sum_by-cons (λ (r : List ℕ). count_by (λ i. is_key_of strands x (word_at k r i)) (range_with_len 0 (length r))) read reads)

-- ---- the keys in a sorted list of packed words

module _ (k : ℕ) (ws : List (List ℕ)) (are : AreWords k ws) (ns sorted : List ℕ) (is : ns ≡ map pack ws) (moves : IsPermutation ns sorted) where
  pub sorted_fit : All (λ n. n < 4 ^ k) sorted
  sorted_fit = All-permutation (λ (n : ℕ). n < 4 ^ k) ns sorted moves (subst (All (λ n. n < 4 ^ k)) (sym is) (packs_fit k ws are))

  pub sorted_occurrences : (x : List ℕ) → occurrences (map (unpack k) sorted) x ≡ occurrences ws x
  sorted_occurrences x =
      occurrences_packed k sorted x
      ∙ sum_by-IsPermutation (λ (n : ℕ). cond (same_word (unpack k n) x) 1 0) ns sorted moves
      ∙ sym (occurrences_packed k ns x)
      ∙ ap (λ (t : List ℕ). occurrences (map (unpack k) t) x) is
      ∙ ap (λ (t : List (List ℕ)). occurrences t x) (unpack_all k ws are)
