-- Texts of numbers in a row.
use Rattle.std.proofs.Common.{◌≡◌, ℕ, zero, suc, ◌+◌, ◌<◌, List, ◌++◌, refl, sym, ap, ◌∙◌, arith, add-zero, append_assoc}
use Rattle.std.specs.List.{flat_map, range_with_len}

-- in two parts
pub spread_join : (f : ℕ → List ℕ) (a n m : ℕ) → flat_map f (range_with_len a (n + m)) ≡ flat_map f (range_with_len a n)
    ++ flat_map f (range_with_len (a + n) m)
spread_join f a zero m =
    let e : 0 + m ≡ m = omega arith in
    let s : a ≡ a + 0 = omega arith in
    (λ i. flat_map f (range_with_len (s i) (e i)))
spread_join f a (suc n) m =
    let e : suc n + m ≡ suc (n + m) = omega arith in
    let s : a + 1 + n ≡ a + suc n = omega arith in
    ap (λ c. flat_map f (range_with_len a c)) e
    ∙ ap (λ (t : List ℕ). f a ++ t) (spread_join f (a + 1) n m ∙ ap (λ b. flat_map f (range_with_len (a + 1) n) ++ flat_map f (range_with_len b m)) s)
    ∙ sym (append_assoc (f a) (flat_map f (range_with_len (a + 1) n)) (flat_map f (range_with_len (a + suc n) m)))

-- the same, from another number on
pub spread_moved : (f g : ℕ → List ℕ) (n a b : ℕ) → ((j : ℕ) → j < n → f (a + j) ≡ g (b + j)) → flat_map f (range_with_len a n)
    ≡ flat_map g (range_with_len b n)
spread_moved f g zero a b same = refl
spread_moved f g (suc n) a b same =
    let here : f a ≡ g b = ap f (sym (add-zero a)) ∙ same 0 (omega arith) ∙ ap g (add-zero b) in
    let rest = spread_moved f g n (a + 1) (b + 1)
    (λ j h. let d : a + 1 + j ≡ a + (j + 1) = omega arith in let e : b + (j + 1) ≡ b + 1 + j = omega arith in ap f d ∙ same (j + 1) (omega arith) ∙ ap g e) in
    (λ i. here i ++ rest i)
