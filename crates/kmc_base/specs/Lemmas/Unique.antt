-- No spelling begins another, so a body has one list of records.
use Rattle.std.proofs.Common.{◌≡◌, ℕ, ◌-◌, List, [], ◌∷◌, ◌++◌, length, get_or, take, drop, refl, sym, ap, ◌∙◌, arith}
use Rattle.std.proofs.lemmas.List.{take_at, drop_at}
use Rattle.std.specs.List.{flat_map, AllByRecursion}
use Rattle.kmc_base.specs.Lemmas.Packs.{AreCodes}
use Rattle.kmc_base.specs.Record.{packed_codes, spelling, IsSpelled, IsBodyOf, codes_in}
use Rattle.kmc_base.specs.Lemmas.Spelled.{codes_packed, length_packed, zeros_to_byte}

codes_back : (s : List ℕ) → AreCodes s → take (length s) (codes_in (packed_codes s)) ≡ s
codes_back s h = ap (take (length s)) (codes_packed s h) ∙ take_at s (zeros_to_byte s) (length s) refl

pub one_spelling : (k : ℕ) (s t x y : List ℕ) → IsSpelled k s → IsSpelled k t → spelling k s ++ x ≡ spelling k t ++ y → (s ≡ t) × (x ≡ y)
one_spelling k s t x y h g e =
    let first : length s - k ≡ length t - k = ap (λ (b : List ℕ). get_or b 0 0) e in
    let count : length s ≡ length t = omega (arith, first, h.least, g.least) in
    let long : length (spelling k t) ≡ length (spelling k s) = omega (arith, length_packed s, length_packed t, count) in
    let n = length (spelling k s) in
    let front : spelling k s ≡ spelling k t = sym (take_at (spelling k s) x n refl) ∙ ap (take n) e ∙ take_at (spelling k t) y n long in
    let back : x ≡ y = sym (drop_at (spelling k s) x n refl) ∙ ap (drop n) e ∙ drop_at (spelling k t) y n long in
    (sym (codes_back s h.codes) ∙ (λ i. take (count i) (codes_in (drop 1 (front i)))) ∙ codes_back t g.codes, back)

lists : (k : ℕ) (ss ts : List (List ℕ)) → AllByRecursion (IsSpelled k) ss → AllByRecursion (IsSpelled k) ts → flat_map (spelling k) ss ≡ flat_map
    (spelling k) ts → ss ≡ ts
lists k [] [] h g e = refl
lists k [] (t ∷ ts) h g e = absurd (omega (arith, ap length e))
lists k (s ∷ ss) [] h g e = absurd (omega (arith, ap length e))
lists k (s ∷ ss) (t ∷ ts) h g e =
    let one = one_spelling k s t (flat_map (spelling k) ss) (flat_map (spelling k) ts) h.0 g.0 e in
    (λ i. one.0 i ∷ lists k ss ts h.1 g.1 one.1 i)

pub one_list : (k : ℕ) (ss ts : List (List ℕ)) (body : List ℕ) → IsBodyOf k ss body → IsBodyOf k ts body → ss ≡ ts
one_list k ss ts body h g = lists k ss ts h.each g.each (sym h.is ∙ g.is)
