-- Pairs in the order of their words, and what of them lies in a range.
use Rattle.std.proofs.Common.{◌≡◌, ℕ, zero, suc, ◌+◌, ◌/◌, ◌<◌, ◌≤◌, ◌⊎◌, inl, inr, Bool, true, false, cond, nat_eq, nat_le, nat_lt, List, [], ◌∷◌, ◌++◌, length, get_or, map, refl, sym, ap, subst, ◌∙◌, arith}
use Rattle.std.specs.List.{filter, sum_by, AllByRecursion}
use Rattle.std.specs.List.Sorted.{IsPermutation, IsNonDecreasingBy}
use Rattle.std.proofs.lemmas.Bool.Decides.{nat_tests}
use Rattle.std.proofs.lemmas.List.Sums.{sum_by-cons, sum_by-append}
use Rattle.std.proofs.lemmas.List.Sorted.{IsPermutation-refl, IsPermutation-cons, IsPermutation-trans, IsPermutation-sym, IsPermutation-middle, Contains-permutation, sum_by-IsPermutation}
use Rattle.std.proofs.lemmas.Nat.{div-add-mod', le-div}
use Rattle.kmc_base.specs.Lemmas.Members.{Has, has_contains, contains_has, RisesBy, same_members}
use Rattle.kmc_lists.specs.Ordered.{Rises, Climbs, Differ, joined, Apart, put, in_order, is_within, within}

-- ---- members

moved_has : (p : ℕ × ℕ) (ps qs : List (ℕ × ℕ)) → IsPermutation ps qs → Has p ps → Has p qs
moved_has p ps qs moves m = has_contains p qs (Contains-permutation ps qs p moves (contains_has p ps m))

-- ---- two rising lists with the same pairs

rises_by : (ps : List (ℕ × ℕ)) → Rises ps → RisesBy (λ p q. p.0 < q.0) ps
rises_by [] h = tt
rises_by (p ∷ ps) h = (h.0, rises_by ps h.1)

same_pairs : (xs ys : List (ℕ × ℕ)) → Rises xs → Rises ys → ((p : ℕ × ℕ) → Has p xs → Has p ys) → ((p : ℕ × ℕ) → Has p ys → Has p xs) → xs ≡ ys
same_pairs xs ys rx ry there back = same_members (λ p q. p.0 < q.0) (λ p q r low high. omega (arith, low, high))
    (λ p less. omega (arith, less)) xs ys (rises_by xs rx) (rises_by ys ry) there back

-- ---- how often a word stands

abbrev is_at : ℕ → ℕ × ℕ → ℕ
is_at x p = cond (nat_eq p.0 x) 1 0

abbrev pub times : ℕ → List (ℕ × ℕ) → ℕ
times x ps = sum_by (is_at x) ps

times_more : (x : ℕ) (p : ℕ × ℕ) (ps : List (ℕ × ℕ)) → times x (p ∷ ps) ≡ is_at x p + times x ps
times_more x p ps = sum_by-cons (is_at x) p ps

at_same : (x : ℕ) (p : ℕ × ℕ) → p.0 ≡ x → is_at x p ≡ 1
at_same x p e = grind (arith, nat_tests)

at_other : (x : ℕ) (p : ℕ × ℕ) → (p.0 ≡ x → ⊥) → is_at x p ≡ 0
at_other x p e = grind (arith, nat_tests)

pub same_or_other : (a b : ℕ) → (a ≡ b) ⊎ (a ≡ b → ⊥)
same_or_other a b = go (nat_eq a b) refl
  where
    go : (t : Bool) → nat_eq a b ≡ t → (a ≡ b) ⊎ (a ≡ b → ⊥)
    go true e = inl (grind (arith, nat_tests))
    go false e = inr (grind (arith, nat_tests))

none_below : (x : ℕ) (ps : List (ℕ × ℕ)) → AllByRecursion (λ q. x < q.0) ps → times x ps ≡ 0
none_below x [] h = refl
none_below x (p ∷ ps) h =
    let other : p.0 ≡ x → ⊥ = λ e. omega (arith, h.0, e) in
    omega (arith, times_more x p ps, at_other x p other, none_below x ps h.1)

none_differs : (x : ℕ) (ps : List (ℕ × ℕ)) → AllByRecursion (λ q. x ≡ q.0 → ⊥) ps → times x ps ≡ 0
none_differs x [] h = refl
none_differs x (p ∷ ps) h = omega (arith, times_more x p ps, at_other x p (λ e. h.0 (sym e)), none_differs x ps h.1)

rising_once : (x : ℕ) (ps : List (ℕ × ℕ)) → Rises ps → times x ps ≤ 1
rising_once x [] h = omega arith
rising_once x (p ∷ ps) h = go (same_or_other p.0 x) (rising_once x ps h.1)
  where
    go : (p.0 ≡ x) ⊎ (p.0 ≡ x → ⊥) → times x ps ≤ 1 → times x (p ∷ ps) ≤ 1
    go (inl e) few =
        let none : times x ps ≡ 0 = none_below x ps (subst (λ n. AllByRecursion (λ (q : ℕ × ℕ). n < q.0) ps) e h.0) in
        omega (arith, times_more x p ps, at_same x p e, none)
    go (inr e) few = omega (arith, times_more x p ps, at_other x p e, few)

not_both : (x : ℕ) (ps qs : List (ℕ × ℕ)) → Differ ps qs → 1 ≤ times x ps → times x qs ≡ 0
not_both x [] qs h some = absurd (omega (arith, some))
not_both x (p ∷ ps) qs h some = go (same_or_other p.0 x) (not_both x ps qs h.1)
  where
    go : (p.0 ≡ x) ⊎ (p.0 ≡ x → ⊥) → (1 ≤ times x ps → times x qs ≡ 0) → times x qs ≡ 0
    go (inl e) more = none_differs x qs (subst (λ n. AllByRecursion (λ (q : ℕ × ℕ). n ≡ q.0 → ⊥) qs) e h.0)
    go (inr e) more = more (omega (arith, some, times_more x p ps, at_other x p e))

pub once : (x : ℕ) (pss : List (List (ℕ × ℕ))) → AllByRecursion Rises pss → Apart pss → times x (joined pss) ≤ 1
once x [] rise apart = omega arith
once x (ps ∷ pss) rise apart = go (times x ps) refl (rising_once x ps rise.0) (once x pss rise.1 apart.1)
  where
    both : times x (joined (ps ∷ pss)) ≡ times x ps + times x (joined pss)
    both = sum_by-append (is_at x) ps (joined pss)

    go : (n : ℕ) → times x ps ≡ n → times x ps ≤ 1 → times x (joined pss) ≤ 1 → times x (joined (ps ∷ pss)) ≤ 1
    go zero e one more = omega (arith, both, e, more)
    go (suc n) e one more = omega (arith, both, one, not_both x ps (joined pss) apart.0 (omega (arith, e)))

-- ---- words that do not fall, each once, rise

above : (x : ℕ) (ps : List (ℕ × ℕ)) → AllByRecursion (λ q. x ≤ q.0) ps → times x ps ≡ 0 → AllByRecursion (λ q. x < q.0) ps
above x [] h none = tt
above x (p ∷ ps) h none = go (same_or_other p.0 x) (above x ps h.1)
  where
    go : (p.0 ≡ x) ⊎ (p.0 ≡ x → ⊥) → (times x ps ≡ 0 → AllByRecursion (λ q. x < q.0) ps) → AllByRecursion (λ q. x < q.0) (p ∷ ps)
    go (inl e) more = absurd (omega (arith, none, times_more x p ps, at_same x p e))
    go (inr e) more =
        let less : x < p.0 = grind arith in
        (less, more (omega (arith, none, times_more x p ps)))

pub strictly : (ps : List (ℕ × ℕ)) → Climbs ps → ((x : ℕ) → times x ps ≤ 1) → Rises ps
strictly [] h few = tt
strictly (p ∷ ps) h few =
    let none : times p.0 ps ≡ 0 = omega (arith, few p.0, times_more p.0 p ps, at_same p.0 p refl) in
    (above p.0 ps h.0 none, strictly ps h.1 (λ x. omega (arith, few x, times_more x p ps)))

-- ---- in order

put_moves : (p : ℕ × ℕ) (qs : List (ℕ × ℕ)) → IsPermutation (p ∷ qs) (put p qs)
put_moves p [] = IsPermutation-refl (p ∷ [])
put_moves p (q ∷ qs) = go (nat_le p.0 q.0) (put_moves p qs)
  where
    go : (b : Bool) → IsPermutation (p ∷ qs) (put p qs) → IsPermutation (p ∷ q ∷ qs) (cond b (p ∷ q ∷ qs) (q ∷ put p qs))
    go true more = IsPermutation-refl (p ∷ q ∷ qs)
    go false more =
        IsPermutation-trans (p ∷ q ∷ qs) (q ∷ p ∷ qs) (q ∷ put p qs)
        (IsPermutation-sym (q ∷ p ∷ qs) (p ∷ q ∷ qs) (IsPermutation-middle (q ∷ []) p qs))
        (IsPermutation-cons q (p ∷ qs) (put p qs) more)

pub in_order_moves : (ps : List (ℕ × ℕ)) → IsPermutation ps (in_order ps)
in_order_moves [] = IsPermutation-refl []
in_order_moves (p ∷ ps) =
    IsPermutation-trans (p ∷ ps) (p ∷ in_order ps) (put p (in_order ps)) (IsPermutation-cons p ps (in_order ps) (in_order_moves ps)) (put_moves p (in_order ps))

all_put : (x : ℕ) (p : ℕ × ℕ) (qs : List (ℕ × ℕ)) → x ≤ p.0 → AllByRecursion (λ q. x ≤ q.0) qs → AllByRecursion (λ q. x ≤ q.0) (put p qs)
all_put x p [] here h = (here, tt)
all_put x p (q ∷ qs) here h = go (nat_le p.0 q.0) (all_put x p qs here h.1)
  where
    go : (b : Bool) → AllByRecursion (λ q. x ≤ q.0) (put p qs) → AllByRecursion (λ q. x ≤ q.0) (cond b (p ∷ q ∷ qs) (q ∷ put p qs))
    go true more = (here, h)
    go false more = (h.0, more)

all_above : (x y : ℕ) (qs : List (ℕ × ℕ)) → x ≤ y → AllByRecursion (λ q. y ≤ q.0) qs → AllByRecursion (λ q. x ≤ q.0) qs
all_above x y [] less h = tt
all_above x y (q ∷ qs) less h = (omega (arith, less, h.0), all_above x y qs less h.1)

put_climbs : (p : ℕ × ℕ) (qs : List (ℕ × ℕ)) → Climbs qs → Climbs (put p qs)
put_climbs p [] h = (tt, tt)
put_climbs p (q ∷ qs) h = go (nat_le p.0 q.0) refl (put_climbs p qs h.1)
  where
    go : (b : Bool) → nat_le p.0 q.0 ≡ b → Climbs (put p qs) → Climbs (cond b (p ∷ q ∷ qs) (q ∷ put p qs))
    go true e more =
        let less : p.0 ≤ q.0 = grind (arith, nat_tests) in
        ((less, all_above p.0 q.0 qs less h.0), h)
    go false e more =
        let less : q.0 ≤ p.0 = grind (arith, nat_tests) in
        (all_put q.0 p qs less h.0, more)

pub in_order_climbs : (ps : List (ℕ × ℕ)) → Climbs (in_order ps)
in_order_climbs [] = tt
in_order_climbs (p ∷ ps) = put_climbs p (in_order ps) (in_order_climbs ps)

pub rises_climbs : (ps : List (ℕ × ℕ)) → Rises ps → Climbs ps
rises_climbs [] h = tt
rises_climbs (p ∷ ps) h = (weaker ps h.0, rises_climbs ps h.1)
  where
    weaker : (qs : List (ℕ × ℕ)) → AllByRecursion (λ q. p.0 < q.0) qs → AllByRecursion (λ q. p.0 ≤ q.0) qs
    weaker [] h = tt
    weaker (q ∷ qs) h = (omega (arith, h.0), weaker qs h.1)

-- what a sort by the words says
pub climbs_from : {A : Type 0} (f g : A → ℕ) (ps : List A) → IsNonDecreasingBy f ps → Climbs (map (λ p. (f p, g p)) ps)
climbs_from {A = A} f g [] h = tt
climbs_from {A = A} f g (p ∷ ps) h = (
  first ps (λ i inside. h 0 (suc i) p (omega arith) (omega (arith, inside))),
  climbs_from f g ps
      (λ i j d up inside. h (suc i) (suc j) d (omega (arith, up)) (omega (arith, inside))),
)
  where
    first : (qs : List A) → ((i : ℕ) → i < length qs → f p ≤ f (get_or qs i p)) → AllByRecursion {X = ℕ × ℕ} (λ q. f p ≤ q.0) (map (λ p. (f p, g p)) qs)
    first [] k = tt
    first (q ∷ qs) k = (k 0 (omega arith), first qs (λ i inside. k (suc i) (omega (arith, inside))))

-- ---- filters

module _ (t : ℕ × ℕ → Bool) where
  has_filter : (p : ℕ × ℕ) (ps : List (ℕ × ℕ)) → Has p (filter t ps) → Has p ps × (t p ≡ true)
  has_filter p [] m = absurd m
  has_filter p (q ∷ qs) m = go (t q) refl m (has_filter p qs)
    where
      go : (b : Bool) → t q ≡ b → Has p (cond b (q ∷ filter t qs) (filter t qs)) → (Has p (filter t qs) → Has p qs × (t p ≡ true))
          → ((q ≡ p) ⊎ Has p qs) × (t p ≡ true)
      go true e (inl here) more = (inl here, ap t (sym here) ∙ e)
      go true e (inr there) more = let m = more there in (inr m.0, m.1)
      go false e there more = let m = more there in (inr m.0, m.1)

  filter_has : (p : ℕ × ℕ) (ps : List (ℕ × ℕ)) → Has p ps → t p ≡ true → Has p (filter t ps)
  filter_has p [] m h = m
  filter_has p (q ∷ qs) (inl here) h =
      let e : t q ≡ true = ap t here ∙ h in
      subst (λ b. Has p (cond b (q ∷ filter t qs) (filter t qs))) (sym e) (inl here)
  filter_has p (q ∷ qs) (inr there) h = go (t q) (filter_has p qs there h)
    where
      go : (b : Bool) → Has p (filter t qs) → Has p (cond b (q ∷ filter t qs) (filter t qs))
      go true m = inr m
      go false m = m

  all_filter : (x : ℕ) (ps : List (ℕ × ℕ)) → AllByRecursion (λ q. x < q.0) ps → AllByRecursion (λ q. x < q.0) (filter t ps)
  all_filter x [] h = tt
  all_filter x (p ∷ ps) h = go (t p) (all_filter x ps h.1)
    where
      go : (b : Bool) → AllByRecursion (λ q. x < q.0) (filter t ps) → AllByRecursion (λ q. x < q.0) (cond b (p ∷ filter t ps) (filter t ps))
      go true m = (h.0, m)
      go false m = m

  rises_filter : (ps : List (ℕ × ℕ)) → Rises ps → Rises (filter t ps)
  rises_filter [] h = tt
  rises_filter (p ∷ ps) h = go (t p) (rises_filter ps h.1)
    where
      go : (b : Bool) → Rises (filter t ps) → Rises (cond b (p ∷ filter t ps) (filter t ps))
      go true m = (all_filter p.0 ps h.0, m)
      go false m = m

  times_filter : (x : ℕ) (ps : List (ℕ × ℕ)) → times x (filter t ps) ≤ times x ps
  times_filter x [] = omega arith
  times_filter x (p ∷ ps) = go (t p) (times_filter x ps)
    where
      go : (b : Bool) → times x (filter t ps) ≤ times x ps → times x (cond b (p ∷ filter t ps) (filter t ps)) ≤ times x (p ∷ ps)
      go true less = omega (arith, times_more x p (filter t ps), times_more x p ps, less)
      go false less = omega (arith, times_more x p ps, less)

  -- what was gathered from the lists and sorted is that part of the whole
  pub part_is : (pss : List (List (ℕ × ℕ))) (s : List (ℕ × ℕ)) → AllByRecursion Rises pss → Apart pss → IsPermutation (filter t (joined pss)) s
      → Climbs s → s ≡ filter t (in_order (joined pss))
  part_is pss s rise apart moved climbs =
      let all = joined pss in
      let few : (x : ℕ) → times x s ≤ 1 = λ x. omega (
        arith,
        sum_by-IsPermutation (is_at x) (filter t all) s moved,
        times_filter x all,
        once x pss rise apart,
      ) in
      let few2 : (x : ℕ) → times x (in_order all) ≤ 1 = λ x. omega (
        arith,
        sum_by-IsPermutation (is_at x) all (in_order all) (in_order_moves all),
        once x pss rise apart,
      ) in
      same_pairs s (filter t (in_order all)) (strictly s climbs few) (rises_filter (in_order all) (strictly (in_order all) (in_order_climbs all) few2))
      (λ p m. let h = has_filter p all (moved_has p s (filter t all) (IsPermutation-sym (filter t all) s moved) m) in filter_has p (in_order all)
      (moved_has p all (in_order all) (in_order_moves all) h.0) h.1)
      (λ p m. let h = has_filter p (in_order all) m in moved_has p (filter t all) s moved
      (filter_has p all (moved_has p (in_order all) all (IsPermutation-sym all (in_order all) (in_order_moves all)) h.0) h.1))

-- ---- ranges that follow one another

module _ (w : ℕ) (pos : 0 < w) where
  pub slot_up : (a b : ℕ) → a ≤ b → a / w ≤ b / w
  slot_up a b less = le-div (a / w) b w pos (omega (arith, div-add-mod' a w, less))

  none_within : (a b : ℕ) (p : ℕ × ℕ) (ps : List (ℕ × ℕ)) → b ≤ p.0 / w → AllByRecursion (λ q. p.0 ≤ q.0) ps → within w a b ps ≡ []
  none_within a b p [] high h = refl
  none_within a b p (q ∷ qs) high h =
      let slot : b ≤ q.0 / w = omega (arith, high, slot_up p.0 q.0 h.0) in
      let no : is_within w a b q ≡ false = grind (arith, nat_tests) in
      ap (λ t. cond t (q ∷ within w a b qs) (within w a b qs)) no ∙ none_within a b p qs high h.1

  -- one range after the other is the range of both
  pub ranges_join : (a b c : ℕ) → a ≤ b → b ≤ c → (ps : List (ℕ × ℕ)) → Climbs ps → within w a b ps ++ within w b c ps ≡ within w a c ps
  ranges_join a b c low high [] h = refl
  ranges_join a b c low high (p ∷ ps) h = go (nat_lt (p.0 / w) a) (nat_lt (p.0 / w) b) (nat_lt (p.0 / w) c) refl refl refl (ranges_join a b c low high ps h.1)
    where
      s : ℕ
      s = p.0 / w

      is : (from to : ℕ) (t : Bool) → is_within w from to p ≡ t → within w from to (p ∷ ps) ≡ cond t (p ∷ within w from to ps) (within w from to ps)
      is from to t e = ap (λ u. cond u (p ∷ within w from to ps) (within w from to ps)) e

      go : (x y z : Bool) → nat_lt (p.0 / w) a ≡ x → nat_lt (p.0 / w) b ≡ y → nat_lt (p.0 / w) c ≡ z → within w a b ps ++ within w b c ps ≡ within w a c ps
          → within w a b (p ∷ ps) ++ within w b c (p ∷ ps) ≡ within w a c (p ∷ ps)
      go true y z e f g more =
          let n1 : is_within w a b p ≡ false = grind (arith, nat_tests) in
          let n2 : is_within w b c p ≡ false = grind (arith, nat_tests) in
          let n3 : is_within w a c p ≡ false = grind (arith, nat_tests) in
          (λ i. is a b false n1 i ++ is b c false n2 i) ∙ more ∙ sym (is a c false n3)
      go false true z e f g more =
          let n1 : is_within w a b p ≡ true = grind (arith, nat_tests) in
          let n2 : is_within w b c p ≡ false = grind (arith, nat_tests) in
          let n3 : is_within w a c p ≡ true = grind (arith, nat_tests) in
          (λ i. is a b true n1 i ++ is b c false n2 i) ∙ ap (λ (l : List (ℕ × ℕ)). p ∷ l) more ∙ sym (is a c true n3)
      go false false true e f g more =
          let n1 : is_within w a b p ≡ false = grind (arith, nat_tests) in
          let n2 : is_within w b c p ≡ true = grind (arith, nat_tests) in
          let n3 : is_within w a c p ≡ true = grind (arith, nat_tests) in
          let slot : b ≤ p.0 / w = grind (arith, nat_tests) in
          let none : within w a b ps ≡ [] = none_within a b p ps slot h.0 in
          let rest : within w b c ps ≡ within w a c ps = ap (λ (l : List (ℕ × ℕ)). l ++ within w b c ps) (sym none) ∙ more in
          (λ i. is a b false n1 i ++ is b c true n2 i) ∙ (λ i. none i ++ p ∷ rest i) ∙ sym (is a c true n3)
      go false false false e f g more =
          let n1 : is_within w a b p ≡ false = grind (arith, nat_tests) in
          let n2 : is_within w b c p ≡ false = grind (arith, nat_tests) in
          let n3 : is_within w a c p ≡ false = grind (arith, nat_tests) in
          (λ i. is a b false n1 i ++ is b c false n2 i) ∙ more ∙ sym (is a c false n3)
