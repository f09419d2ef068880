-- The rows of a map in which keys are counted.
use Rattle.std.proofs.Common.{◌≡◌, ℕ, ◌+◌, ◌≤◌, Bool, true, false, cond, List, [], ◌∷◌, ◌++◌, Option, Some, None, BTreeMap, unwrap_or, inl, inr, refl, sym, ap, subst, ◌∙◌, arith}
use Rattle.std.specs.Prelude.{◌==◌, IsSome}
use Rattle.std.specs.BTreeMap.{get, is_at, IsEmpty, IsOrdered}
use Rattle.std.specs.Cmp.{IsTotalOrder}
use Rattle.std.specs.List.{AllByRecursion}
use Rattle.std.specs.List.Sorted.{IsStrictlySortedBy}
use Rattle.std.specs.Map.{keys_of, lookup}
use Rattle.std.specs.Ordering.{eq_by_cmp, is_eq, nat_cmp, ordering_reverse}
use Rattle.std.specs.declared.cmp.Ordering.{Ordering}
use Rattle.std.specs.declared.cmp.Ordering.TheVariants.{Less, Equal, Greater}
use Rattle.std.proofs.lemmas.Bool.Decides.{nat_tests}
use Rattle.std.proofs.lemmas.Cmp.{tied_itself}
use Rattle.std.proofs.lemmas.Map.Lookups.{CmpEqualImpliesEq}
use Rattle.std.proofs.lemmas.Map.Views.{Contains-keys_from_lookup}
use Rattle.kmc_base.specs.Lemmas.Members.{Has}
use Rattle.kmc_join.specs.Rows.{AreNumbered, CountsOneMore, HasNoZero, number_of}

some_value : (o : Option ℕ) → 1 ≤ unwrap_or o 0 → IsSome o
some_value None some = absurd (omega arith)
some_value (Some n) some = refl

equal_is : (o : Ordering) → is_eq o ≡ true → o ≡ Equal
equal_is Less e = absurd (cc)
equal_is Equal e = refl
equal_is Greater e = absurd (cc)

-- numbers that compare equal are equal
pub nat_eq_by_cmp : (a b : ℕ) → eq_by_cmp nat_cmp a b ≡ (a == b)
nat_eq_by_cmp a b = grind (arith, nat_tests)

module _ {K : Type 0} (order : K → K → Ordering) where
  pub no_tally : (tally : BTreeMap K ℕ) → IsEmpty tally → HasNoZero order tally
  no_tally tally empty = λ n. subst (λ (es : List (K × ℕ)). 1 ≤ unwrap_or (lookup (is_at (order n)) es) 1) (sym empty) (omega arith)

  pub none_seen : (tally : BTreeMap K ℕ) → IsEmpty tally → (n : K) → number_of order tally n ≡ 0
  none_seen tally empty n = ap (λ (es : List (K × ℕ)). unwrap_or (lookup (is_at (order n)) es) 0) empty

  -- each key was seen at most once more
  pub few_more : (old new : BTreeMap K ℕ) (key : K) (steps : ℕ) → CountsOneMore order old new key → ((n : K) → number_of order old n ≤ steps) → (n : K)
      → number_of order new n ≤ steps + 1
  few_more old new key steps more few n = omega (arith, few n, more.counts n, one (eq_by_cmp order key n))
    where
      one : (b : Bool) → cond b 1 0 ≤ 1
      one true = omega arith
      one false = omega arith

  -- words that rise, and one above them
  pub rising_end : (x : K) (xs : List K) → IsStrictlySortedBy order xs → ((y : K) → Has y xs → order y x ≡ Less)
      → IsStrictlySortedBy order (xs ++ x ∷ [])
  unfolding IsStrictlySortedBy
  rising_end x [] up below = (tt, tt)
  rising_end x (w ∷ ws) up below = (all_end ws up.0 (below w (inl refl)), rising_end x ws up.1 (λ y m. below y (inr m)))
    where
      all_end : (vs : List K) → AllByRecursion (λ y. order w y ≡ Less) vs → order w x ≡ Less → AllByRecursion (λ y. order w y ≡ Less) (vs ++ x ∷ [])
      all_end [] h less = (less, tt)
      all_end (v ∷ vs) h less = (h.0, all_end vs h.1 less)

  module _ (exact : CmpEqualImpliesEq order) (total : IsTotalOrder order) where
    -- of keys that rise each finds its own value
    found : (es : List (K × ℕ)) → IsStrictlySortedBy order (keys_of es) → AllByRecursion (λ e. lookup (is_at (order e.0)) es ≡ Some e.1) es
    unfolding IsStrictlySortedBy
    found [] up = tt
    found (e ∷ es) up = (
      let own : is_at (order e.0) e.0 ≡ true = ap is_eq (tied_itself total e.0) in ap (λ b. cond b (Some e.1) (lookup (is_at (order e.0)) es)) own,
      behind es up.0 (found es up.1),
    )
      where
        behind : (fs : List (K × ℕ)) → AllByRecursion (λ k. order e.0 k ≡ Less) (keys_of fs)
            → AllByRecursion (λ f. lookup (is_at (order f.0)) es ≡ Some f.1) fs → AllByRecursion (λ f. lookup (is_at (order f.0)) (e ∷ es) ≡ Some f.1) fs
        behind [] above h = tt
        behind (f ∷ fs) above h = (
          let other : is_at (order f.0) e.0 ≡ false = ap is_eq (total.antisymm f.0 e.0 ∙ ap ordering_reverse above.0) in
              ap (λ b. cond b (Some e.1) (lookup (is_at (order f.0)) es)) other ∙ h.0,
          behind fs above.1 h.1,
        )

    -- the rows of the map are those of the number that it has of each key
    pub numbered_is : (tally : BTreeMap K ℕ) (number : K → ℕ) → IsOrdered order tally → HasNoZero order tally
        → ((key : K) → number_of order tally key ≡ number key) → AreNumbered order number tally.entries
    numbered_is tally number ordered sound counts = record {
      rising = ordered;
      each = all_right tally.entries (found tally.entries ordered);
      all = λ n some. Contains-keys_from_lookup (λ a b e. exact a b (equal_is (order a b) e)) n tally.entries
          (some_value (get order tally n) (omega (arith, some, counts n)));
    }
      where
        all_right : (es : List (K × ℕ)) → AllByRecursion (λ e. get order tally e.0 ≡ Some e.1) es
            → AllByRecursion (λ r. (1 ≤ r.1) × (r.1 ≡ number r.0)) es
        all_right [] h = tt
        all_right (e ∷ es) h = (
          (subst (λ (o : Option ℕ). 1 ≤ unwrap_or o 1) h.0 (sound e.0), ap (λ (o : Option ℕ). unwrap_or o 0) (sym h.0) ∙ counts e.0),
          all_right es h.1,
        )
