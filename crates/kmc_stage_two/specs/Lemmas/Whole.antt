-- The pairs of all lists in order, spelled out, are the merged list.
use Rattle.std.proofs.Common.{◌≡◌, ℕ, ◌<◌, ◌^◌, List, [], ◌∷◌, ◌++◌, map, refl, ap, subst, ◌∙◌, arith}
use Rattle.std.specs.List.{AllByRecursion}
use Rattle.std.specs.List.Sorted.{IsPermutation, IsStrictlySortedBy}
use Rattle.std.specs.Ordering.{nat_cmp}
use Rattle.std.specs.declared.cmp.Ordering.TheVariants.{Less}
use Rattle.std.proofs.lemmas.Bool.Decides.{nat_tests}
use Rattle.std.proofs.lemmas.List.{map-append}
use Rattle.std.proofs.lemmas.List.Elements.{recursion_from_All}
use Rattle.std.proofs.lemmas.List.Sorted.{IsPermutation-map, All-permutation, sum_by-IsPermutation}
use Rattle.kmc_base.specs.Words.{kmer_cmp}
use Rattle.kmc_base.specs.Packed.{unpack}
use Rattle.kmc_count.specs.Dump.{words_of}
use Rattle.kmc_count.specs.Merge.{IsMerged, joined as spelled_joined}
use Rattle.kmc_count.specs.Lemmas.PackedRuns.{cmp_packed}
use Rattle.kmc_lists.specs.Listed.{Listed, spell, spelled}
use Rattle.kmc_lists.specs.Ordered.{Rises, joined, packs, CanBeMerged, in_order, whole}
use Rattle.kmc_lists.specs.Lemmas.Order.{once, strictly, times, in_order_moves, in_order_climbs}

module _ (k : ℕ) where
  joined_spelled : (lists : List Listed) → spelled k (joined (packs lists)) ≡ spelled_joined (map (λ c. spelled k c.packed) lists)
  joined_spelled [] = refl
  joined_spelled (c ∷ cs) = map-append (spell k) c.packed (joined (packs cs)) ∙ ap (λ (t : List (List ℕ × ℕ)). spelled k c.packed ++ t) (joined_spelled cs)

  less_words : (p : ℕ) (qs : List (ℕ × ℕ)) → p < 4 ^ k → AllByRecursion (λ q. q.0 < 4 ^ k) qs → AllByRecursion (λ q. p < q.0) qs
      → AllByRecursion (λ v. kmer_cmp (unpack k p) v ≡ Less) (words_of (spelled k qs))
  less_words p [] fit fits h = tt
  less_words p (q ∷ qs) fit fits h =
      let less : p < q.0 = h.0 in
      let e : nat_cmp p q.0 ≡ Less = grind (arith, nat_tests) in
      (cmp_packed k p q.0 fit fits.0 ∙ e, less_words p qs fit fits.1 h.1)

  pub rising_words : (ps : List (ℕ × ℕ)) → AllByRecursion (λ q. q.0 < 4 ^ k) ps → Rises ps → IsStrictlySortedBy kmer_cmp (words_of (spelled k ps))
  unfolding IsStrictlySortedBy
  rising_words [] fits h = tt
  rising_words (p ∷ ps) fits h = (less_words p.0 ps fits.0 fits.1 h.0, rising_words ps fits.1 h.1)

pub whole_merged : (k : ℕ) (lists : List Listed) → CanBeMerged k lists → IsMerged (map (λ c. spelled k c.packed) lists) (spelled k (whole lists))
whole_merged k lists can =
    let all = joined (packs lists) in
    let moves = in_order_moves all in
    let P : ℕ × ℕ → Type 0 = λ p. p.0 < 4 ^ k in
    let rises : Rises (in_order all) = strictly (in_order all) (in_order_climbs all)
    (λ x. omega (arith, once x (packs lists) can.rise can.apart, times_moved x all)) in
    record {
      all = subst (λ (t : List (List ℕ × ℕ)). IsPermutation t (spelled k (in_order all))) (joined_spelled k lists)
          (IsPermutation-map (spell k) all (in_order all) moves);
      rising = rising_words k (in_order all) (recursion_from_All P (in_order all) (All-permutation P all (in_order all) moves can.fit)) rises;
    }
  where
    times_moved : (x : ℕ) (all : List (ℕ × ℕ)) → times x (in_order all) ≡ times x all
    times_moved x all = sum_by-IsPermutation _ all (in_order all) (in_order_moves all)
