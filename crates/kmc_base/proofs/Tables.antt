-- A table that agrees with a definition, place by place.
use Rattle.std.proofs.Common.{◌≡◌, ℕ, zero, suc, ◌+◌, ◌<◌, ◌&&◌, Bool, true, nat_eq, List, [], ◌∷◌, length, get_or, sym, ap, ◌∙◌, arith, add-zero}
use Rattle.std.proofs.lemmas.Bool.{and_parts}
use Rattle.std.proofs.lemmas.Bool.Decides.{nat_tests}

abbrev pub agrees : (ℕ → ℕ) → ℕ → List ℕ → Bool
agrees f i [] = true
agrees f i (c ∷ cs) = nat_eq c (f i) && agrees f (i + 1) cs

equal : (a b : ℕ) → nat_eq a b ≡ true → a ≡ b
equal a b e = grind (arith, nat_tests)

at_place : (f : ℕ → ℕ) (i : ℕ) (cs : List ℕ) (j : ℕ) → agrees f i cs ≡ true → j < length cs → get_or cs j 0 ≡ f (i + j)
at_place f i [] j e inside = absurd (omega arith)
at_place f i (c ∷ cs) zero e inside =
    equal c (f i) (and_parts (nat_eq c (f i)) (agrees f (i + 1) cs) e).0 ∙ ap f (sym (add-zero i))
at_place f i (c ∷ cs) (suc j) e inside =
    let place : i + 1 + j ≡ i + suc j = omega arith in
    at_place f (i + 1) cs j (and_parts (nat_eq c (f i)) (agrees f (i + 1) cs) e).1 (omega arith) ∙ ap f place

pub found : (f : ℕ → ℕ) (cs : List ℕ) (i : ℕ) → agrees f 0 cs ≡ true → i < length cs → get_or cs i 0 ≡ f i
found f cs i e inside =
    let first : 0 + i ≡ i = omega arith in
    at_place f 0 cs i e inside ∙ ap f first
