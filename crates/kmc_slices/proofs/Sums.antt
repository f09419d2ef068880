-- Sums over bins of which one at most counts, and over slices.
use Rattle.std.proofs.Common.{◌≡◌, ℕ, zero, suc, ◌+◌, ◌%◌, ◌<◌, ◌≤◌, ◌⊎◌, inl, inr, Bool, true, false, cond, eqb, List, [], ◌∷◌, length, get_or, refl, sym, ap, ◌∙◌, arith, zero-add, add-zero}
use Rattle.std.specs.List.{sum_by, range_with_len}
use Rattle.std.proofs.lemmas.List.Sums.{sum_by-cons}

cond_zero : (b : Bool) (n : ℕ) → n ≡ 0 → cond b n 0 ≡ 0
cond_zero true n e = e
cond_zero false n e = refl

cond_most : (b : Bool) (n : ℕ) → cond b n 0 ≤ n
cond_most true n = omega arith
cond_most false n = omega arith

module _ (S : ℕ) (T : ℕ → ℕ) (some : 1 ≤ S) where
  abbrev pub of_slice : ℕ → ℕ → ℕ
  of_slice s b = cond (eqb (b % S) s) (T b) 0

  pub slice_most : (s : ℕ) (bs : List ℕ) → sum_by (of_slice s) bs ≤ sum_by T bs
  slice_most s [] = omega arith
  slice_most s (b ∷ bs) = omega (arith, sum_by-cons (of_slice s) b bs, sum_by-cons T b bs, slice_most s bs, cond_most (eqb (b % S) s) (T b))

  -- at most one of the bins counts
  abbrev pub Lone : List ℕ → Type 0
  Lone [] = Unit {0}
  Lone (b ∷ bs) = ((T b ≡ 0) ⊎ (sum_by T bs ≡ 0)) × Lone bs

  pub one_slice : (bs : List ℕ) → Lone bs → (t : ℕ) × (t < S) × ((s : ℕ) → sum_by (of_slice s) bs ≡ cond (eqb t s) (sum_by T bs) 0)
  one_slice [] lone = (0, omega (arith, some), λ s. sym (cond_zero (eqb 0 s) (sum_by T []) refl))
  one_slice (b ∷ bs) lone = go lone.0 (one_slice bs lone.1)
    where
      go : (T b ≡ 0) ⊎ (sum_by T bs ≡ 0) → (t : ℕ) × (t < S) × ((s : ℕ) → sum_by (of_slice s) bs ≡ cond (eqb t s) (sum_by T bs) 0)
          → (t : ℕ) × (t < S) × ((s : ℕ) → sum_by (of_slice s) (b ∷ bs) ≡ cond (eqb t s) (sum_by T (b ∷ bs)) 0)
      go (inl none) h =
          let all : sum_by T (b ∷ bs) ≡ sum_by T bs = sum_by-cons T b bs ∙ ap (λ n. n + sum_by T bs) none ∙ zero-add (sum_by T bs) in (
            h.0,
            h.1,
            λ s. sum_by-cons (of_slice s) b bs ∙ ap (λ n. n + sum_by (of_slice s) bs) (cond_zero (eqb (b % S) s) (T b) none) ∙ zero-add
                (sum_by (of_slice s) bs)
                ∙ h.2 s ∙ ap (λ n. cond (eqb h.0 s) n 0) (sym all),
          )
      go (inr rest) h =
          let all : sum_by T (b ∷ bs) ≡ T b = sum_by-cons T b bs ∙ ap (λ n. T b + n) rest ∙ add-zero (T b) in (
            b % S,
            omega (arith, some),
            λ s.
                let none : sum_by (of_slice s) bs ≡ 0 = omega (arith, slice_most s bs, rest) in
                sum_by-cons (of_slice s) b bs ∙ ap (λ n. of_slice s b + n) none ∙ add-zero (of_slice s b) ∙ ap (λ n. cond (eqb (b % S) s) n 0)
                (sym all),
          )

  sum_none : (a m : ℕ) → ((j : ℕ) → a ≤ j → j < a + m → T j ≡ 0) → sum_by T (range_with_len a m) ≡ 0
  sum_none a zero h = refl
  sum_none a (suc m) h =
      sum_by-cons T a (range_with_len (a + 1) m)
      ∙ (λ i. h a (omega arith) (omega arith) i + sum_none (a + 1) m (λ j low high. h j (omega arith) (omega arith)) i)

  -- of two bins one does not count
  pub lone_range : (a m : ℕ) → ((i j : ℕ) → a ≤ i → i < j → j < a + m → (T i ≡ 0) ⊎ (T j ≡ 0)) → Lone (range_with_len a m)
  lone_range a zero h = tt
  lone_range a (suc m) h = (first (T a) refl, lone_range (a + 1) m (λ i j low less high. h i j (omega arith) less (omega arith)))
    where
      other : (n : ℕ) (j : ℕ) → T a ≡ suc n → (T a ≡ 0) ⊎ (T j ≡ 0) → T j ≡ 0
      other n j e (inl none) = absurd (omega (arith, e, none))
      other n j e (inr none) = none

      first : (n : ℕ) → T a ≡ n → (T a ≡ 0) ⊎ (sum_by T (range_with_len (a + 1) m) ≡ 0)
      first zero e = inl e
      first (suc n) e = inr (sum_none (a + 1) m (λ j low high. other n j e (h a j (omega arith) (omega arith) (omega arith))))

module _ {A : Type 0} (g : A → ℕ) (d : A) where
  all_none : (xs : List A) → ((s : ℕ) → s < length xs → g (get_or xs s d) ≡ 0) → sum_by g xs ≡ 0
  all_none [] h = refl
  all_none (x ∷ xs) h = sum_by-cons g x xs ∙ (λ i. h 0 (grind arith) i + all_none xs (λ s inside. h (suc s) (omega (arith, inside))) i)

  -- one of a list counts
  pub one_of : (V t : ℕ) (xs : List A) → t < length xs
      → ((s : ℕ) → s < length xs → (s ≡ t → g (get_or xs s d) ≡ V) × ((s ≡ t → ⊥) → g (get_or xs s d) ≡ 0)) → sum_by g xs ≡ V
  one_of V t [] inside h = absurd (omega (arith, inside))
  one_of V zero (x ∷ xs) inside h =
      sum_by-cons g x xs ∙ (λ i. (h 0 inside).0 refl i + all_none xs
      (λ s within. (h (suc s) (omega (arith, within))).1 (λ e. omega (arith, e))) i) ∙ add-zero V
  one_of V (suc t) (x ∷ xs) inside h =
      sum_by-cons g x xs
      ∙ (λ i. (h 0 (grind arith)).1 (λ e. omega (arith, e)) i
      + one_of V t xs (omega (arith, inside)) (λ s within. (
        (λ e. (h (suc s) (omega (arith, within))).0 (ap suc e)),
        (λ differ. (h (suc s) (omega (arith, within))).1 (λ e. differ (omega (arith, e)))),
      )) i)
      ∙ zero-add V
