-- Sums over lists by their places.
use Rattle.std.proofs.Common.{◌≡◌, ℕ, suc, ◌+◌, List, [], ◌∷◌, length, get_or, refl, sym, ap, ap₂, ◌∙◌, arith}
use Rattle.std.specs.List.{sum_by, range_with_len}
use Rattle.std.proofs.lemmas.List.Sums.{sum_by-cons}

-- the sum over a list by its places
pub sum_places : {A : Type 0} (F : A → ℕ) (d : A) (xs : List A) → sum_by F xs ≡ sum_by (λ i. F (get_or xs i d)) (range_with_len 0 (length xs))
sum_places {A} F d xs = go xs 0 xs (λ i. ap (λ n. get_or xs n d) (let e : 0 + i ≡ i = omega arith in e))
  where
    go : (all : List A) (a : ℕ) (ys : List A) → ((i : ℕ) → get_or all (a + i) d ≡ get_or ys i d) → sum_by F ys ≡ sum_by (λ i. F (get_or all i d))
        (range_with_len a (length ys))
    go all a [] e = refl
    go all a (y ∷ ys) e =
        sum_by-cons F y ys
        ∙ ap₂ (λ (m n : ℕ). m + n) (ap F (sym (ap (λ n. get_or all n d) (let z : a ≡ a + 0 = omega arith in z) ∙ e 0)))
        (go all (a + 1) ys (λ i. ap (λ n. get_or all n d) (let z : a + 1 + i ≡ a + suc i = omega arith in z) ∙ e (suc i)))
        ∙ sym (sum_by-cons (λ i. F (get_or all i d)) a (range_with_len (a + 1) (length ys)))
