-- Counts at places.
use Rattle.std.proofs.Common.{◌≡◌, ℕ, zero, suc, ◌+◌, ◌*◌, ◌<◌, ◌≤◌, ◌⊎◌, inl, inr, List, [], ◌∷◌, length, set, get_or, replicate, refl, sym, ap, subst, ◌∙◌, arith, zero-add, add-zero}
use Rattle.kmc_count.specs.Waiting.{placed_worth}

module _ (w : ℕ → ℕ) where
  -- ---- a count is set

  set_from : (d : ℕ) (cs : List ℕ) (j v : ℕ) → j < length cs → placed_worth w d (set cs j v) + get_or cs j 0 * w (d + j) ≡ placed_worth w d cs + v * w (d + j)
  set_from d [] j v inside = absurd (omega (arith, inside))
  set_from d (c ∷ cs) zero v inside =
      let same : d + 0 ≡ d = add-zero d in
      let here : c * w (d + 0) ≡ c * w d = ap (λ m. c * w m) same in
      let there : v * w (d + 0) ≡ v * w d = ap (λ m. v * w m) same in
      omega (arith, here, there)
  set_from d (c ∷ cs) (suc j) v inside =
      let e : 1 + d + j ≡ d + suc j = omega arith in
      let rest = set_from (1 + d) cs j v (omega (arith, inside)) in
      let here : get_or cs j 0 * w (1 + d + j) ≡ get_or cs j 0 * w (d + suc j) = ap (λ m. get_or cs j 0 * w m) e in
      let there : v * w (1 + d + j) ≡ v * w (d + suc j) = ap (λ m. v * w m) e in
      omega (arith, rest, here, there)

  pub set_place : (cs : List ℕ) (j v : ℕ) → j < length cs → placed_worth w 0 (set cs j v) + get_or cs j 0 * w j ≡ placed_worth w 0 cs + v * w j
  set_place cs j v inside = subst (λ m. placed_worth w 0 (set cs j v) + get_or cs j 0 * w m ≡ placed_worth w 0 cs + v * w m) (zero-add j)
      (set_from 0 cs j v inside)

  pub no_places : (d n : ℕ) → placed_worth w d (replicate n 0) ≡ 0
  no_places d zero = refl
  no_places d (suc n) =
      let none : 0 * w d ≡ 0 = omega arith in
      omega (arith, none, no_places (1 + d) n)

  -- ---- other worths

  same_from : (v : ℕ → ℕ) (d : ℕ) (cs : List ℕ) → ((j : ℕ) → j < length cs → (get_or cs j 0 ≡ 0) ⊎ (w (d + j) ≡ v (d + j))) → placed_worth w d cs ≡ placed_worth v d cs
  same_from v d [] alike = refl
  same_from v d (c ∷ cs) alike =
      let here : c * w d ≡ c * v d = elim (alike 0 (omega arith)) [
        | inl none ↦ let z : c ≡ 0 = none in (λ i. z i * w d) ∙ (let q : 0 * w d ≡ 0 * v d = omega arith in q) ∙ (λ i. sym z i * v d)
        | inr same ↦ ap (λ t. c * t) (subst (λ m. w m ≡ v m) (add-zero d) same)
      ] in
      let rest = same_from v (1 + d) cs (λ j inside.
      let e : d + suc j ≡ 1 + d + j = omega arith in
      elim (alike (suc j) (omega (arith, inside))) [
        | inl none ↦ inl none
        | inr same ↦ inr (subst (λ m. w m ≡ v m) e same)
      ]) in
      omega (arith, here, rest)

  pub same_places : (v : ℕ → ℕ) (cs : List ℕ) → ((j : ℕ) → j < length cs → (get_or cs j 0 ≡ 0) ⊎ (w j ≡ v j)) → placed_worth w 0 cs ≡ placed_worth v 0 cs
  same_places v cs alike = same_from v 0 cs (λ j inside. elim (alike j inside) [
    | inl none ↦ inl none
    | inr same ↦ inr (subst (λ m. w m ≡ v m) (sym (zero-add j)) same)
  ])

-- a count is at most all of them
one_from : (d : ℕ) (cs : List ℕ) (j : ℕ) → get_or cs j 0 ≤ placed_worth (λ _. 1) d cs
one_from d [] j = omega arith
one_from d (c ∷ cs) zero = omega arith
one_from d (c ∷ cs) (suc j) = omega (arith, one_from (1 + d) cs j)

pub one_place : (cs : List ℕ) (j : ℕ) → get_or cs j 0 ≤ placed_worth (λ _. 1) 0 cs
one_place cs j = one_from 0 cs j

no_worth_from : (d : ℕ) (cs : List ℕ) → placed_worth (λ _. 0) d cs ≡ 0
no_worth_from d [] = refl
no_worth_from d (c ∷ cs) = omega (arith, no_worth_from (1 + d) cs)

-- where all counts stand at the first place, which is worth nothing, they are worth nothing
pub first_place : (w : ℕ → ℕ) (cs : List ℕ) → w 0 ≡ 0 → ((j : ℕ) → 0 < j → get_or cs j 0 ≡ 0) → placed_worth w 0 cs ≡ 0
first_place w cs nothing none = same_places w (λ _. 0) cs at ∙ no_worth_from 0 cs
  where
    at : (j : ℕ) → j < length cs → (get_or cs j 0 ≡ 0) ⊎ (w j ≡ 0)
    at zero inside = inr nothing
    at (suc j) inside = inl (none (suc j) (omega arith))
