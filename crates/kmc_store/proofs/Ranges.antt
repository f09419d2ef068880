-- Sums over ranges of numbers.
use Rattle.std.proofs.Common.{◌≡◌, ◌≢◌, ℕ, zero, suc, ◌+◌, ◌<◌, ◌≤◌, nat_eq, Bool, true, false, cond, refl, ap, arith}
use Rattle.std.proofs.lemmas.List.Sums.{sum_by-cons}
use Rattle.std.proofs.lemmas.Bool.Decides.{nat_tests}
use Rattle.std.specs.List.{sum_by, range_with_len}

pub eq_of : (a b : ℕ) → nat_eq a b ≡ true → a ≡ b
eq_of a b h = grind (arith, nat_tests)

pub ne_of : (a b : ℕ) → nat_eq a b ≡ false → a ≢ b
ne_of a b h = grind (arith, nat_tests)

pub is_eq : (a b : ℕ) → a ≡ b → nat_eq a b ≡ true
is_eq a b h = grind (arith, nat_tests)

pub is_ne : (a b : ℕ) → a ≢ b → nat_eq a b ≡ false
is_ne a b h = grind (arith, nat_tests)

-- the terms are equal at each number of the range
pub range_same : (f g : ℕ → ℕ) (a n : ℕ) → ((w : ℕ) → a ≤ w → w < a + n → f w ≡ g w) → sum_by f (range_with_len a n) ≡ sum_by g (range_with_len a n)
range_same f g a zero e = refl
range_same f g a (suc n) e = omega (
  arith,
  sum_by-cons f a (range_with_len (a + 1) n),
  sum_by-cons g a (range_with_len (a + 1) n),
  e a (omega arith) (omega arith),
  range_same f g (a + 1) n (λ w l h. e w (omega arith) (omega arith)),
)

-- the term at i, where that is a number of the range
abbrev pub only : ℕ → (ℕ → ℕ) → ℕ → ℕ
only i f j = cond (nat_eq j i) (f j) 0

range_none : (i : ℕ) (f : ℕ → ℕ) (a n : ℕ) → i < a → sum_by (only i f) (range_with_len a n) ≡ 0
range_none i f a zero h = refl
range_none i f a (suc n) h = omega (
  arith,
  sum_by-cons (only i f) a (range_with_len (a + 1) n),
  range_none i f (a + 1) n (omega arith),
  ap
      (λ t. cond t (f a) 0) (is_ne a i (λ e. omega arith)),
)

range_from : (i : ℕ) (f : ℕ → ℕ) (a n : ℕ) → a ≤ i → i < a + n → sum_by (only i f) (range_with_len a n) ≡ f i
range_from i f a zero h l = absurd (omega arith)
range_from i f a (suc n) h l = go (λ ne. range_from i f (a + 1) n (omega arith) (omega arith)) (nat_eq a i) refl
  where
    go : (a ≢ i → sum_by (only i f) (range_with_len (a + 1) n) ≡ f i) → (t : Bool) → nat_eq a i ≡ t → sum_by (only i f) (range_with_len a (suc n)) ≡ f i
    go rest true e = omega (
      arith,
      sum_by-cons (only i f) a (range_with_len (a + 1) n),
      range_none i f (a + 1) n (omega (arith, eq_of a i e)),
      ap
          (λ t. cond t (f a) 0) e,
      ap f (eq_of a i e),
    )
    go rest false e = omega (arith, sum_by-cons (only i f) a (range_with_len (a + 1) n), rest (ne_of a i e), ap (λ t. cond t (f a) 0) e)

pub range_one : (i : ℕ) (f : ℕ → ℕ) (n : ℕ) → i < n → sum_by (only i f) (range_with_len 0 n) ≡ f i
range_one i f n h = range_from i f 0 n (omega arith) (omega arith)

-- the sum of f over the numbers below n
abbrev pub sum_below : (ℕ → ℕ) → ℕ → ℕ
sum_below f zero = 0
sum_below f (suc n) = sum_below f n + f n

pub below_same : (f g : ℕ → ℕ) (n : ℕ) → ((c : ℕ) → f c ≡ g c) → sum_below f n ≡ sum_below g n
below_same f g zero e = refl
below_same f g (suc n) e = omega (arith, below_same f g n e, e n)

pub below_none : (f : ℕ → ℕ) (n : ℕ) → ((c : ℕ) → f c ≡ 0) → sum_below f n ≡ 0
below_none f zero e = refl
below_none f (suc n) e = omega (arith, below_none f n e, e n)
