-- The items of sorted lists whose words are in a share.
use Rattle.std.proofs.Common.{◌≡◌, ℕ, ◌+◌, ◌/◌, ◌<◌, ◌≤◌, Bool, true, false, nat_lt, nat_le, List, [], ◌∷◌, ◌++◌, length, get_or, map, take, drop, sym, ap, subst, ◌∙◌, arith, append-nil, length-drop, All, Vec, Global}
use Rattle.std.specs.List.{filter}
use Rattle.std.specs.List.Sorted.{IsSorted, IsNonDecreasingBy, IsPartitionPoint}
use Rattle.std.specs.Ordering.{nat_cmp}
use Rattle.std.proofs.lemmas.Bool.Decides.{nat_tests}
use Rattle.std.proofs.lemmas.List.{length-map, get_or-map, get_or-drop, get_or-take, length-take-le, take-append-drop, take-map, drop-map}
use Rattle.std.proofs.lemmas.List.Elements.{recursion_from_All, filter-append}
use Rattle.std.proofs.lemmas.List.Sorted.{IsNonDecreasingBy-from_sort}
use Rattle.kmc_stage_two.specs.Shares.{has_word_from}
use Rattle.kmc_lists.specs.Lemmas.Filters.{filter_none, filter_every}
use Rattle.kmc_lists.specs.Lemmas.Order.{slot_up}

module _ {A : Type 0} (num : A → ℕ) where
  rises : (xs : List A) → IsSorted nat_cmp (map num xs) → IsNonDecreasingBy num xs
  rises xs up = IsNonDecreasingBy-from_sort num xs (λ k d low inside.
      let a = get_or-map num xs (k + 1) d 0 inside in
      let b = get_or-map num xs k d 0 (omega (arith, inside)) in
      rw (a, b) at (up k 0 low (omega (arith, inside, length-map xs num))))

  pub words_rise : (w : ℕ) → 0 < w → (xs : List A) → IsSorted nat_cmp (map num xs) → IsNonDecreasingBy (λ x. num x / w) xs
  words_rise w pos xs up = λ i j d order inside. slot_up w pos _ _ (rises xs up i j d order inside)

  element : (xs : List A) (k : ℕ) → k < length xs → A
  element [] k h = absurd (omega (arith, h))
  element (x ∷ xs) k h = x

  module _ (w first last : ℕ) (xs : List A) (b e : ℕ) (low : b ≤ length xs) (high : e ≤ length (drop b xs))
      (begin : IsPartitionPoint (λ y. nat_lt (num y / w) first ≡ true) (λ y. nat_lt (num y / w) first ≡ false) xs b)
      (end : IsPartitionPoint (λ y. nat_le (num y / w) last ≡ true) (λ y. nat_le (num y / w) last ≡ false) (drop b xs) e) where
    abbrev ns : List ℕ
    ns = map num xs

    abbrev rest : List ℕ
    rest = drop b ns

    abbrev t : ℕ → Bool
    t = has_word_from w first last

    rest_is : rest ≡ map num (drop b xs)
    rest_is = drop-map num b xs

    long : length rest ≡ length (drop b xs)
    long = ap length rest_is ∙ length-map (drop b xs) num

    at : (k d : ℕ) (y : A) → k < length (drop b xs) → get_or rest k d ≡ num (get_or (drop b xs) k y)
    at k d y inside = ap (λ (l : List ℕ). get_or l k d) rest_is ∙ get_or-map num (drop b xs) k y d inside

    before : filter t (take b ns) ≡ []
    before = filter_none t (take b ns) (recursion_from_All (λ n. t n ≡ false) (take b ns) (λ k d less.
        let here : k < b = omega (arith, less, length-take-le b ns (omega (arith, low, length-map xs num))) in
        let inside : k < length xs = omega (arith, here, low) in
        let y = element xs k inside in
        let no : nat_lt (num (get_or xs k y) / w) first ≡ true = begin.0 k y (omega arith) here in
        let is : get_or (take b ns) k d ≡ num (get_or xs k y) = get_or-take b ns k d here ∙ get_or-map num xs k y d inside in
        let out : t (num (get_or xs k y)) ≡ false = grind (arith, nat_tests) in
        ap t is ∙ out))

    from_first : (k : ℕ) (y : A) → k < length (drop b xs) → first ≤ num (get_or (drop b xs) k y) / w
    from_first k y inside =
        let here : b + k < length xs = omega (arith, inside, length-drop b xs) in
        let no : nat_lt (num (get_or xs (b + k) y) / w) first ≡ false = begin.1 (b + k) y (omega arith) here in
        let up : first ≤ num (get_or xs (b + k) y) / w = grind (arith, nat_tests) in
        subst (λ x. first ≤ num x / w) (sym (get_or-drop b xs k y)) up

    within : filter t (take e rest) ≡ take e rest
    within = filter_every t (take e rest) (recursion_from_All (λ n. t n ≡ true) (take e rest) (λ k d less.
        let here : k < e = omega (arith, less, length-take-le e rest (omega (arith, high, long))) in
        let inside : k < length (drop b xs) = omega (arith, here, high) in
        let y = element (drop b xs) k inside in
        let yes : nat_le (num (get_or (drop b xs) k y) / w) last ≡ true = end.0 k y (omega arith) here in
        let is : get_or (take e rest) k d ≡ num (get_or (drop b xs) k y) = get_or-take e rest k d here ∙ at k d y inside in
        let up = from_first k y inside in
        let kept : t (num (get_or (drop b xs) k y)) ≡ true = grind (arith, nat_tests) in
        ap t is ∙ kept))

    behind : filter t (drop e rest) ≡ []
    behind = filter_none t (drop e rest) (recursion_from_All (λ n. t n ≡ false) (drop e rest) (λ k d less.
        let inside : e + k < length (drop b xs) = omega (arith, less, length-drop e rest, long) in
        let y = element (drop b xs) (e + k) inside in
        let no : nat_le (num (get_or (drop b xs) (e + k) y) / w) last ≡ false = end.1 (e + k) y (omega arith) inside in
        let is : get_or (drop e rest) k d ≡ num (get_or (drop b xs) (e + k) y) = get_or-drop e rest k d ∙ at (e + k) d y inside in
        let out : t (num (get_or (drop b xs) (e + k) y)) ≡ false = grind (arith, nat_tests) in
        ap t is ∙ out))

    pub share_is : map num (take e (drop b xs)) ≡ filter t ns
    share_is =
        let parts : filter t ns ≡ filter t (take b ns) ++ filter t rest = ap (filter t) (sym (take-append-drop b ns)) ∙ filter-append t (take b ns) rest in
        let more : filter t rest ≡ filter t (take e rest) ++ filter t (drop e rest) =
        ap (filter t) (sym (take-append-drop e rest)) ∙ filter-append t (take e rest) (drop e rest) in
        let own : filter t rest ≡ take e rest = more ∙ (λ i. within i ++ behind i) ∙ append-nil (take e rest) in
        sym (take-map num e (drop b xs)) ∙ ap (take e) (sym rest_is) ∙ sym own ∙ sym (ap (λ (l : List ℕ). l ++ filter t rest) before) ∙ sym parts

  -- each of the lists rises
  pub list_rises : (lists : List (Vec A Global)) → All (IsSorted nat_cmp) (map (λ v. map num v.items) lists) → (i : ℕ) (v : Vec A Global) → i < length lists
      → v ≡ get_or lists i v → IsSorted nat_cmp (map num v.items)
  list_rises lists up i v inside is =
      let f : Vec A Global → List ℕ = λ v. map num v.items in
      subst (IsSorted nat_cmp) (get_or-map f lists i v [] inside ∙ ap f (sym is)) (up i [] (omega (arith, inside, length-map lists f)))
