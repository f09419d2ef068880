-- The least value of a part of a list, by the numbers of what stands there.
use Rattle.std.proofs.Common.{◌≡◌, ℕ, zero, suc, ◌+◌, ◌-◌, ◌≤◌, List, [], ◌∷◌, length, map, take, drop, slice_index, refl, sym, ap, ◌∙◌, arith}
use Rattle.std.proofs.lemmas.List.{length-take-le, length-drop, take-map}
use Rattle.kmc_split.specs.Minima.{low}
use Rattle.kmc_split.specs.Lemmas.Lowest.{low_slice}

drop_map : {X : Type 0} (f : X → ℕ) (n : ℕ) (xs : List X) → map f (drop n xs) ≡ drop n (map f xs)
drop_map f zero xs = refl
drop_map f (suc n) [] = refl
drop_map f (suc n) (x ∷ xs) = drop_map f n xs

-- of the values from place i to before place j
pub part_low : {X : Type 0} (f : X → ℕ) (xs : List X) (i j w r : ℕ) → 1 ≤ w → j ≡ i + w → j ≤ length xs
    → r ≡ low (slice_index (map f (take (j - i) (drop i xs)))) (length (take (j - i) (drop i xs))) 0 → r ≡ low (slice_index (map f xs)) w i
part_low f xs i j w r some is inside e =
    let long : length (take (j - i) (drop i xs)) ≡ w = length-take-le (j - i) (drop i xs) (omega (arith, length-drop i xs)) ∙ omega arith in
    let part : map f (take (j - i) (drop i xs)) ≡ take (j - i) (drop i (map f xs)) =
    sym (take-map f (j - i) (drop i xs)) ∙ ap (take (j - i)) (drop_map f i xs) in
    e ∙ (λ t. low (slice_index (part t)) (long t) 0) ∙ low_slice w i j (map f xs) some is

-- of the first ones
pub front_low : {X : Type 0} (f : X → ℕ) (xs : List X) (w r : ℕ) → 1 ≤ w → w ≤ length xs
    → r ≡ low (slice_index (map f (take w xs))) (length (take w xs)) 0 → r ≡ low (slice_index (map f xs)) w 0
front_low f xs w r some inside e =
    let all : w ≡ w - 0 = omega arith in
    part_low f xs 0 w w r some (omega arith) inside (e ∙ ap (λ (n : ℕ). low (slice_index (map f (take n xs))) (length (take n xs)) 0) all)
