-- The least value of a window, one place on.
use Rattle.std.proofs.Common.{◌≡◌, ℕ, ◌+◌, ◌<◌, ◌≤◌, ap, ◌∙◌, arith, ◌⊎◌, inl, inr}
use Rattle.kmc_split.specs.Minima.{low}
use Rattle.kmc_split.specs.Lemmas.Lowest.{low_le, low_is}

last_or_before : (j e : ℕ) → j < e + 1 → (j ≡ e) ⊎ (j < e)
last_or_before j e h = grind arith

module _ (at : ℕ → ℕ) (w i : ℕ) (some : 1 ≤ w) where
  -- what comes is not greater
  pub low_comes : at (i + w) ≤ low at w i → low at w (i + 1) ≡ at (i + w)
  low_comes small =
      let found = low_is at w (i + 1) some in
      let most : low at w (i + 1) ≤ at (i + w) = low_le at w (i + 1) (i + w) (omega arith) (omega arith) in
      elim (last_or_before found.0 (i + w) (omega arith)) [
        | inl e ↦ found.3 ∙ ap at e
        | inr h ↦ let old : low at w i ≤ at found.0 = low_le at w i found.0 (omega arith) h in omega (arith, found.3)
      ]

  -- the least one stays, and what comes is greater
  pub low_stays : low at w i < at i → low at w i < at (i + w) → low at w (i + 1) ≡ low at w i
  low_stays leaves comes =
      let found = low_is at w (i + 1) some in
      let before = low_is at w i some in
      let least : low at w i ≤ at found.0 = least_of found.0 found.1 (omega arith) in
      let inner : i + 1 ≤ before.0 = inside before.0 before.1 before.3 in
      let most : low at w (i + 1) ≤ at before.0 = low_le at w (i + 1) before.0 inner (omega arith) in
      omega (arith, found.3, before.3)
    where
      least_of : (j : ℕ) → i + 1 ≤ j → j < (i + w) + 1 → low at w i ≤ at j
      least_of j from to =
          elim (last_or_before j (i + w) to) [
            | inl e ↦ let f : at j ≡ at (i + w) = ap at e in omega arith
            | inr h ↦ low_le at w i j (omega arith) h
          ]

      other : (j : ℕ) → i ≤ j → (j ≡ i) ⊎ (i < j)
      other j from = grind arith

      inside : (j : ℕ) → i ≤ j → low at w i ≡ at j → i + 1 ≤ j
      inside j from is =
          elim (other j from) [
            | inl e ↦ let f : at j ≡ at i = ap at e in absurd (omega (arith, is))
            | inr h ↦ omega arith
          ]
