-- Sums term by term, and sums over the lists that the members of a list have.
use Rattle.std.proofs.Common.{◌≡◌, ℕ, ◌+◌, ◌*◌, List, [], ◌∷◌, refl, sym, ap, ◌∙◌, arith, zero-mul}
use Rattle.std.proofs.Math.Nat.{add-mul}
use Rattle.std.specs.List.{sum_by}
use Rattle.std.proofs.lemmas.List.Sums.{sum_by-cons}
use Rattle.kmc_partqueue.specs.Counts.{Each, total_of}
use Rattle.kmc_partqueue.specs.Lemmas.Sums.{each_map}

module _ {A : Type 0} where
  -- the terms of the members are equal
  pub same_terms : (f g : A → ℕ) (l : List A) → Each (λ (x : A). f x ≡ g x) l → total_of f l ≡ total_of g l
  same_terms f g [] e = refl
  same_terms f g (x ∷ l) e = let first : f x ≡ g x = e.0 in let rest = same_terms f g l e.1 in omega arith

  zero_terms : (l : List A) → total_of (λ (x : A). 0) l ≡ 0
  zero_terms [] = refl
  zero_terms (x ∷ l) = let rest = zero_terms l in omega arith

  added_terms : (f g : A → ℕ) (l : List A) → total_of (λ (x : A). f x + g x) l ≡ total_of f l + total_of g l
  added_terms f g [] = refl
  added_terms f g (x ∷ l) = let rest = added_terms f g l in omega arith

  scaled_terms : (f : A → ℕ) (a : ℕ) (l : List A) → total_of (λ (x : A). f x * a) l ≡ total_of f l * a
  scaled_terms f a [] = sym (zero-mul a)
  scaled_terms f a (x ∷ l) = ap (λ (n : ℕ). f x * a + n) (scaled_terms f a l) ∙ sym (add-mul (f x) (total_of f l) a)

  total_is_sum : (f : A → ℕ) (l : List A) → total_of f l ≡ sum_by f l
  total_is_sum f [] = refl
  total_is_sum f (x ∷ l) = ap (λ (n : ℕ). f x + n) (total_is_sum f l) ∙ sym (sum_by-cons f x l)

-- each member of l has a list
module _ {A B : Type 0} (list : A → List B) (l : List A) where
  abbrev pub over : (B → ℕ) → ℕ
  over f = total_of (λ (x : A). total_of f (list x)) l

  pub over_same : (f g : B → ℕ) → Each (λ (x : A). Each (λ (y : B). f y ≡ g y) (list x)) l → over f ≡ over g
  over_same f g e =
      same_terms (λ (x : A). total_of f (list x)) (λ (x : A). total_of g (list x)) l
      (each_map (λ (x : A). Each (λ (y : B). f y ≡ g y) (list x)) (λ (x : A). total_of f (list x) ≡ total_of g (list x))
      (λ x p. same_terms f g (list x) p) l e)

  pub over_zero : over (λ (y : B). 0) ≡ 0
  over_zero = (λ j. total_of (λ (x : A). zero_terms (list x) j) l) ∙ zero_terms l

  pub over_added : (f g : B → ℕ) → over (λ (y : B). f y + g y) ≡ over f + over g
  over_added f g =
      (λ j. total_of (λ (x : A). added_terms f g (list x) j) l) ∙ added_terms (λ (x : A). total_of f (list x)) (λ (x : A). total_of g (list x)) l

  pub over_scaled : (f : B → ℕ) (a : ℕ) → over (λ (y : B). f y * a) ≡ over f * a
  over_scaled f a = (λ j. total_of (λ (x : A). scaled_terms f a (list x) j) l) ∙ scaled_terms (λ (x : A). total_of f (list x)) a l

  -- a sum of sums, the other one first
  pub over_exchanged : {C : Type 0} (h : B → C → ℕ) (m : List C)
      → over (λ (y : B). total_of (h y) m) ≡ total_of (λ (z : C). over (λ (y : B). h y z)) m
  over_exchanged h [] = over_zero
  over_exchanged {C} h (z ∷ m) =
      over_added (λ (y : B). h y z) (λ (y : B). total_of (h y) m) ∙ ap (λ (n : ℕ). over (λ (y : B). h y z) + n) (over_exchanged h m)

  pub over_is_sum : (f : B → ℕ) → over f ≡ sum_by (λ (x : A). sum_by f (list x)) l
  over_is_sum f = (λ j. total_of (λ (x : A). total_is_sum f (list x) j) l) ∙ total_is_sum (λ (x : A). sum_by f (list x)) l
