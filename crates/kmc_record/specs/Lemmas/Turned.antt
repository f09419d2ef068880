-- A record and its reverse complement have the same words.
use Rattle.std.proofs.Common.{◌≡◌, ℕ, ◌+◌, ◌-◌, ◌<◌, Bool, true, false, cond, subst, List, length, map, reverse, get_or, sym, ap, ◌∙◌, arith, zero-add}
use Rattle.std.proofs.lemmas.List.{same_lists, get_or-reverse, length-reverse}
use Rattle.std.proofs.lemmas.List.FromFn.{length-map-range_with_len, get_or-map-range_with_len}
use Rattle.std.proofs.lemmas.List.Sorted.{IsPermutation-reverse, IsPermutation-refl}
use Rattle.std.specs.List.{range_with_len}
use Rattle.std.specs.List.Sorted.{IsPermutation}
use Rattle.std.specs.Ordering.{is_lt}
use Rattle.kmc_base.specs.declared.strands.Strands.{Strands}
use Rattle.kmc_base.specs.declared.strands.Strands.TheVariants.{Joined, Apart}
use Rattle.kmc_base.specs.Words.{rev_comp, canonical, window, word_cmp}
use Rattle.kmc_base.specs.Strands.{key, keys}
use Rattle.kmc_base.specs.Lemmas.Packs.{AreCodes, length_rev_comp, canonical_rev_comp}
use Rattle.kmc_base.specs.Lemmas.Rolling.{codes_part}
use Rattle.kmc_base.specs.Lemmas.Mirrored.{window_back}

-- the keys of the words of one record are those of the other, in another order
abbrev pub HaveSameWords : Strands → ℕ → List ℕ → List ℕ → Type 0
HaveSameWords strands k s t = IsPermutation (keys strands k s) (keys strands k t)

module _ (k : ℕ) (s : List ℕ) (h : AreCodes s) where
  -- the keys stand the other way round
  keys_turned : keys Joined k (rev_comp s) ≡ reverse (keys Joined k s)
  keys_turned =
      let n = length s + 1 - k in
      let m = length (rev_comp s) + 1 - k in
      let f : ℕ → List ℕ = λ i. canonical (window k s i) in
      let g : ℕ → List ℕ = λ i. canonical (window k (rev_comp s) i) in
      let long : length (map f (range_with_len 0 n)) ≡ n = length-map-range_with_len f 0 n in
      let other : length (map g (range_with_len 0 m)) ≡ m = length-map-range_with_len g 0 m in
      let same : m ≡ n = omega (arith, length_rev_comp s) in
      same_lists (keys Joined k (rev_comp s)) (reverse (keys Joined k s))
      (other ∙ same ∙ sym (length-reverse (map f (range_with_len 0 n)) ∙ long))
      (λ i d less.
      let inside : i < n = omega (arith, other, same) in
      let few : i < m = omega arith in
      let last : length (map f (range_with_len 0 n)) - 1 - i ≡ length s - k - i = omega (arith, long) in
      let here : length s - k - i < n = omega arith in
      get_or-map-range_with_len g 0 m i i d few (zero-add i)
      ∙ ap canonical (window_back k i s (omega arith))
      ∙ canonical_rev_comp (window k s (length s - k - i)) (codes_part k (length s - k - i) s h)
      ∙ sym (get_or-map-range_with_len f 0 n (length s - k - i) (length s - k - i) d here (zero-add (length s - k - i)))
      ∙ ap (λ j. get_or (map f (range_with_len 0 n)) j d) (sym last)
      ∙ sym (get_or-reverse (map f (range_with_len 0 n)) i d (omega (arith, long))))

  pub turned_words : HaveSameWords Joined k s (rev_comp s)
  turned_words = subst (IsPermutation (keys Joined k s)) (sym keys_turned) (IsPermutation-reverse (keys Joined k s))

-- the lesser of a record and its reverse complement has the words of both
pub canonical_words : (strands : Strands) (k : ℕ) (s : List ℕ) → AreCodes s → HaveSameWords strands k s (key strands s)
canonical_words Apart k s h = IsPermutation-refl (keys Apart k s)
canonical_words Joined k s h = go (is_lt (word_cmp (rev_comp s) s))
  where
    go : (b : Bool) → HaveSameWords Joined k s (cond b (rev_comp s) s)
    go true = turned_words k s h
    go false = IsPermutation-refl (keys Joined k s)
