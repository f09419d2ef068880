-- Running sums of how many pairs lie in each slot.
use Rattle.std.proofs.Common.{◌≡◌, ℕ, zero, suc, ◌+◌, ◌<◌, ◌≤◌, cond, List, length, take, sym, ap, ◌∙◌, arith, take_all}
use Rattle.std.specs.Prelude.{sum}
use Rattle.std.proofs.lemmas.List.Sorted.{sum_by-IsPermutation}
use Rattle.std.proofs.lemmas.List.Sums.{count_by-le-length, length-filter, sum_by_more}
use Rattle.kmc_lists.specs.Listed.{Listed}
use Rattle.kmc_lists.specs.Ordered.{in_order, is_within, joined, packs, whole, within}
use Rattle.kmc_lists.specs.Lemmas.Order.{in_order_moves}
use Rattle.kmc_dump.specs.Lemmas.Parted.{both}
use Rattle.kmc_dump.specs.Ranges.{count_within, AreSizes, HaveSizes}

module _ (w : ℕ) where
  none_before : (ps : List (ℕ × ℕ)) → length (within w 0 0 ps) ≡ 0
  none_before ps = omega (arith, both w 0 0 0 (omega arith) (omega arith) ps)

  -- the sum of the sizes of the slots before one
  pub sum_is : (sizes : List ℕ) (lists : List Listed) → AreSizes w sizes lists → (i : ℕ) → i ≤ length sizes → sum (take i sizes) ≡ count_within w 0 i lists
  sum_is sizes lists are zero inside = sym (none_before (joined (packs lists)))
  sum_is sizes lists are (suc i) inside =
      let here : i < length sizes = omega (arith, inside) in
      let next : suc i ≡ i + 1 = omega arith in
      ap (λ n. sum (take n sizes)) next
      ∙ sum_by_more (λ (n : ℕ). n) sizes i 0 here
      ∙ omega (
        arith,
        sum_is sizes lists are i (omega (arith, inside)),
        are i here,
        both w 0 i (i + 1) (omega arith) (omega arith) (joined (packs lists)),
        ap (λ n. count_within w 0 n lists) next,
      )

  -- the order of the pairs does not matter
  pub within_whole : (a b : ℕ) (lists : List Listed) → length (within w a b (whole lists)) ≡ count_within w a b lists
  within_whole a b lists =
      let t = is_within w a b in
      let ps = joined (packs lists) in
      length-filter t (in_order ps)
      ∙ sum_by-IsPermutation (λ (p : ℕ × ℕ). cond (t p) 1 0) ps (in_order ps) (in_order_moves ps)
      ∙ sym (length-filter t ps)

  -- all sizes together are no more than the pairs
  pub sum_few : (slots : ℕ) (sizes : List ℕ) (lists : List Listed) → HaveSizes w slots sizes lists → sum sizes ≤ length (whole lists)
  sum_few slots sizes lists have =
      let all : sum (take (length sizes) sizes) ≡ sum sizes = ap sum (take_all (length sizes) sizes (omega arith)) in
      let t = is_within w 0 (length sizes) in
      let ps = whole lists in
      omega (
        arith,
        all,
        sum_is sizes lists have.each (length sizes) (omega arith),
        within_whole 0 (length sizes) lists,
        length-filter t ps,
        count_by-le-length t ps,
      )
