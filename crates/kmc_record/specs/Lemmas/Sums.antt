-- Sums over lists.
use Rattle.std.proofs.Common.{◌≡◌, ℕ, ◌+◌, Bool, true, false, cond, List, [], ◌∷◌, map, refl, ap, arith}
use Rattle.std.proofs.lemmas.List.Sums.{sum_by-cons, sum_by-append}
use Rattle.std.specs.List.{sum_by, flat_map, filter}

module _ {A : Type 0} where
  pub sum_same : (f g : A → ℕ) → ((x : A) → f x ≡ g x) → (xs : List A) → sum_by f xs ≡ sum_by g xs
  sum_same f g e [] = refl
  sum_same f g e (x ∷ xs) = omega (arith, sum_by-cons f x xs, sum_by-cons g x xs, e x, sum_same f g e xs)

  pub sum_none : (xs : List A) → sum_by (λ (x : A). 0) xs ≡ 0
  sum_none [] = refl
  sum_none (x ∷ xs) = omega (arith, sum_by-cons (λ (y : A). 0) x xs, sum_none xs)

  pub sum_add : (f g : A → ℕ) (xs : List A) → sum_by (λ (x : A). f x + g x) xs ≡ sum_by f xs + sum_by g xs
  sum_add f g [] = refl
  sum_add f g (x ∷ xs) = omega (arith, sum_by-cons f x xs, sum_by-cons g x xs, sum_by-cons (λ (y : A). f y + g y) x xs, sum_add f g xs)

  -- the sum over those that pass
  pub sum_filter : (F : A → ℕ) (p : A → Bool) (xs : List A) → sum_by F (filter p xs) ≡ sum_by (λ (x : A). cond (p x) (F x) 0) xs
  sum_filter F p [] = refl
  sum_filter F p (x ∷ xs) = go (sum_filter F p xs) (p x) refl
    where
      go : sum_by F (filter p xs) ≡ sum_by (λ (y : A). cond (p y) (F y) 0) xs → (t : Bool) → p x ≡ t → sum_by F
          (cond (p x) (x ∷ filter p xs) (filter p xs)) ≡ sum_by (λ (y : A). cond (p y) (F y) 0) (x ∷ xs)
      go rest true e = omega (
        arith,
        sum_by-cons F x (filter p xs),
        sum_by-cons (λ (y : A). cond (p y) (F y) 0) x xs,
        rest,
        ap
            (λ t. cond t (F x) 0) e,
        ap (λ t. sum_by F (cond t (x ∷ filter p xs) (filter p xs))) e,
      )
      go rest false e = omega (
        arith,
        sum_by-cons (λ (y : A). cond (p y) (F y) 0) x xs,
        rest,
        ap (λ t. cond t (F x) 0) e,
        ap
            (λ t. sum_by F (cond t (x ∷ filter p xs) (filter p xs))) e,
      )

module _ {A B : Type 0} where
  pub sum_flat_map : (F : B → ℕ) (f : A → List B) (xs : List A) → sum_by F (flat_map f xs) ≡ sum_by (λ (x : A). sum_by F (f x)) xs
  sum_flat_map F f [] = refl
  sum_flat_map F f (x ∷ xs) = omega (arith, sum_by-append F (f x) (flat_map f xs), sum_by-cons (λ (y : A). sum_by F (f y)) x xs, sum_flat_map F f xs)

  pub sum_map : (F : B → ℕ) (f : A → B) (xs : List A) → sum_by F (map f xs) ≡ sum_by (λ (x : A). F (f x)) xs
  sum_map F f [] = refl
  sum_map F f (x ∷ xs) = omega (arith, sum_by-cons F (f x) (map f xs), sum_by-cons (λ (y : A). F (f y)) x xs, sum_map F f xs)
