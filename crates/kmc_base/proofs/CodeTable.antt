-- A table of codes that agrees with their definition.
use Rattle.std.proofs.Common.{◌≡◌, ℕ, zero, suc, ◌+◌, ◌<◌, ◌&&◌, Bool, true, nat_eq, List, [], ◌∷◌, length, get_or, Option, Some, None, sym, ap, ◌∙◌, arith, add-zero}
use Rattle.std.proofs.lemmas.Bool.{and_parts}
use Rattle.std.proofs.lemmas.Bool.Decides.{nat_tests}
use Rattle.kmc_base.specs.Words.{code_of}

-- the number that stands for no base is 4
abbrev code_or_four : Option ℕ → ℕ
code_or_four None = 4
code_or_four (Some c) = c

abbrev agrees : ℕ → List ℕ → Bool
agrees i [] = true
agrees i (c ∷ cs) = nat_eq c (code_or_four (code_of i)) && agrees (i + 1) cs

at_place : (i : ℕ) (cs : List ℕ) (j : ℕ) → agrees i cs ≡ true → j < length cs → get_or cs j 0 ≡ code_or_four (code_of (i + j))
at_place i [] j e inside = absurd (omega arith)
at_place i (c ∷ cs) zero e inside =
    let here : c ≡ code_or_four (code_of i) = grind (arith, nat_tests, (and_parts (nat_eq c (code_or_four (code_of i))) (agrees (i + 1) cs) e).0) in
    here ∙ ap (λ n. code_or_four (code_of n)) (sym (add-zero i))
at_place i (c ∷ cs) (suc j) e inside =
    let place : i + 1 + j ≡ i + suc j = omega arith in
    at_place (i + 1) cs j (and_parts (nat_eq c (code_or_four (code_of i))) (agrees (i + 1) cs) e).1 (omega arith) ∙ ap (λ n. code_or_four (code_of n)) place

is_code : (o : Option ℕ) (c : ℕ) → c ≡ code_or_four o → c < 4 → Some c ≡ o
is_code None c e small = absurd (omega arith)
is_code (Some d) c e small = ap Some e

pub found : (cs : List ℕ) (b : ℕ) → agrees 0 cs ≡ true → b < length cs → get_or cs b 0 < 4 → Some (get_or cs b 0) ≡ code_of b
found cs b e inside small =
    let zero_first : 0 + b ≡ b = omega arith in
    is_code (code_of b) (get_or cs b 0) (at_place 0 cs b e inside ∙ ap (λ n. code_or_four (code_of n)) zero_first) small
