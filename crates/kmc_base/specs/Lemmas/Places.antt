-- Lists of what stands at places in a row.
use Rattle.std.proofs.Common.{◌≡◌, ℕ, zero, suc, ◌+◌, ◌<◌, List, ◌∷◌, ◌++◌, map, refl, sym, ap, ◌∙◌, arith, add-zero}
use Rattle.std.specs.List.{range_with_len}

-- places in a row, in two parts
pub places_append : (f : ℕ → List ℕ) (a n m : ℕ) → map f (range_with_len a (n + m)) ≡ map f (range_with_len a n) ++ map f (range_with_len (a + n) m)
places_append f a zero m =
    let e : 0 + m ≡ m = omega arith in
    let s : a ≡ a + 0 = omega arith in
    (λ i. map f (range_with_len (s i) (e i)))
places_append f a (suc n) m =
    let e : suc n + m ≡ suc (n + m) = omega arith in
    let s : a + 1 + n ≡ a + suc n = omega arith in
    ap (λ c. map f (range_with_len a c)) e
    ∙ ap (λ (t : List (List ℕ)). f a ∷ t) (places_append f (a + 1) n m ∙ ap (λ b. map f (range_with_len (a + 1) n) ++ map f (range_with_len b m)) s)

-- the same, from another place on
pub places_moved : (f g : ℕ → List ℕ) (n a b : ℕ) → ((j : ℕ) → j < n → f (a + j) ≡ g (b + j)) → map f (range_with_len a n) ≡ map g (range_with_len b n)
places_moved f g zero a b same = refl
places_moved f g (suc n) a b same =
    let here : f a ≡ g b = ap f (sym (add-zero a)) ∙ same 0 (omega arith) ∙ ap g (add-zero b) in
    let rest = places_moved f g n (a + 1) (b + 1)
    (λ j h. let d : a + 1 + j ≡ a + (j + 1) = omega arith in let e : b + (j + 1) ≡ b + 1 + j = omega arith in ap f d ∙ same (j + 1) (omega arith) ∙ ap g e) in
    (λ i. here i ∷ rest i)
