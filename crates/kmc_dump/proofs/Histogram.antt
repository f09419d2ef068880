-- How many pairs lie in each slot, pair by pair and list by list.
use Rattle.std.proofs.Common.{◌≡◌, ℕ, ◌+◌, ◌-◌, ◌*◌, ◌/◌, ◌^◌, ◌<◌, ◌≤◌, ◌⊎◌, inl, inr, Bool, true, false, cond, List, [], ◌∷◌, ◌++◌, length, get_or, take, set, sym, ap, subst, ◌∙◌, arith}
use Rattle.std.proofs.lemmas.Bool.Decides.{nat_tests}
use Rattle.std.proofs.lemmas.Nat.{shr_below}
use Rattle.kmc_base.specs.Lemmas.Powers.{pow_quad}
use Rattle.std.proofs.lemmas.List.{take_more, length-append, length-set, get_or-set_same, get_or-set_other}
use Rattle.std.proofs.lemmas.List.Elements.{filter-append}
use Rattle.kmc_lists.specs.Ordered.{is_within, within}
use Rattle.kmc_lists.specs.Lemmas.Order.{same_or_other}

single : (t : ℕ × ℕ → Bool) (p : ℕ × ℕ) (b : Bool) → t p ≡ b → length (cond (t p) (p ∷ []) []) ≡ cond b 1 0
single t p true e = ap (λ (b : Bool). length (cond b (p ∷ []) [])) e
single t p false e = ap (λ (b : Bool). length (cond b (p ∷ []) [])) e

here : (w s : ℕ) (p : ℕ × ℕ) → s ≡ p.0 / w → length (within w s (s + 1) (p ∷ [])) ≡ 1
here w s p e = let yes : is_within w s (s + 1) p ≡ true = grind (arith, nat_tests) in single (is_within w s (s + 1)) p true yes

elsewhere : (w s : ℕ) (p : ℕ × ℕ) → (s ≡ p.0 / w → ⊥) → length (within w s (s + 1) (p ∷ [])) ≡ 0
elsewhere w s p e = let no : is_within w s (s + 1) p ≡ false = grind (arith, nat_tests) in single (is_within w s (s + 1)) p false no

more : (w s i : ℕ) (ps : List (ℕ × ℕ)) (p : ℕ × ℕ) → i < length ps → p ≡ get_or ps i p
    → length (within w s (s + 1) (take (i + 1) ps)) ≡ length (within w s (s + 1) (take i ps)) + length (within w s (s + 1) (p ∷ []))
more w s i ps p inside is =
    ap (λ (l : List (ℕ × ℕ)). length (within w s (s + 1) l)) (take_more ps i p inside ∙ ap (λ (q : ℕ × ℕ). take i ps ++ q ∷ []) (sym is))
    ∙ ap length (filter-append (is_within w s (s + 1)) (take i ps) (p ∷ []))
    ∙ length-append (within w s (s + 1) (take i ps)) (within w s (s + 1) (p ∷ []))

-- one more pair is noted at its slot
pub noted : (sizes old : List ℕ) (w i slot size : ℕ) (ps : List (ℕ × ℕ)) (p : ℕ × ℕ) → i < length ps → p ≡ get_or ps i p → slot ≡ p.0 / w → slot < length sizes
    → size ≡ get_or sizes slot 0 + 1 → ((s : ℕ) → s < length sizes → get_or sizes s 0 ≡ get_or old s 0 + length (within w s (s + 1) (take i ps)))
    → (s : ℕ) → s < length (set sizes slot size) → get_or (set sizes slot size) s 0 ≡ get_or old s 0 + length (within w s (s + 1) (take (i + 1) ps))
noted sizes old w i slot size ps p inside is at room next before s low = go (same_or_other s slot)
  where
    low_before : s < length sizes
    low_before = omega (arith, low, length-set sizes slot size)

    go : (s ≡ slot) ⊎ (s ≡ slot → ⊥) → get_or (set sizes slot size) s 0 ≡ get_or old s 0 + length (within w s (s + 1) (take (i + 1) ps))
    go (inl e) =
        let one = here w s p (e ∙ at) in
        let now : get_or (set sizes slot size) s 0 ≡ size = ap (λ n. get_or (set sizes slot size) n 0) e ∙ get_or-set_same sizes slot size 0 room in
        let same : get_or sizes slot 0 ≡ get_or sizes s 0 = ap (λ n. get_or sizes n 0) (sym e) in
        omega (arith, now, next, same, before s low_before, more w s i ps p inside is, one)
    go (inr e) =
        let none = elsewhere w s p (λ f. e (f ∙ sym at)) in
        let now : get_or (set sizes slot size) s 0 ≡ get_or sizes s 0 = get_or-set_other sizes slot s size 0 e in
        omega (arith, now, before s low_before, more w s i ps p inside is, none)

-- the first symbols of a word are below the number of slots
pub slot_fits : (k s p : ℕ) → s ≤ k → p < 4 ^ k → p / 2 ^ (2 * (k - s)) < 2 ^ (2 * s)
slot_fits k s p few fit =
    let sum : 2 * k ≡ 2 * s + 2 * (k - s) = omega arith in
    shr_below p (2 * s) (2 * (k - s)) (subst (λ n. p < n) (pow_quad k ∙ ap (λ n. 2 ^ n) sum) fit)
