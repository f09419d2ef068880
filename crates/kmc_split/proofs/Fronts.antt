-- The numbers of a list whose front was read or written.
use Rattle.std.proofs.Common.{◌≡◌, ℕ, ◌<◌, ◌++◌, List, [], ◌∷◌, length, map, refl, take, slice_index, sym, ap, ◌∙◌, arith}
use Rattle.std.proofs.lemmas.List.{length-map, map-append, take-map, get_or-take, get_or_append_left}

-- the number at a place of the front
pub taken_number : {X : Type 0} (f : X → ℕ) (xs ys : List X) (n i : ℕ) → i < n → xs ≡ ys
    → slice_index (map f (take n xs)) i ≡ slice_index (map f ys) i
taken_number {X} f xs ys n i inside e =
    ap (λ (ns : List ℕ). slice_index ns i) (sym (take-map f n xs)) ∙ get_or-take n (map f xs) i 0 inside ∙ ap (λ (l : List X). slice_index (map f l) i) e

-- the number at a place of the front, whatever stands behind
pub front_number : {X : Type 0} (f : X → ℕ) (front rest : List X) (i : ℕ) → i < length front
    → slice_index (map f (front ++ rest)) i ≡ slice_index (map f front) i
front_number f front rest i inside =
    ap (λ (ns : List ℕ). slice_index ns i) (map-append f front rest)
    ∙ get_or_append_left (map f front) (map f rest) 0 i (omega (arith, length-map front f))

-- a number of 16 bits is its own
pub own_numbers : (xs : List ℕ) → map (λ (n : ℕ). n) xs ≡ xs
own_numbers [] = refl
own_numbers (x ∷ xs) = ap (λ (l : List ℕ). x ∷ l) (own_numbers xs)
