-- The least value of a window, by its bounds.
use Rattle.std.proofs.Common.{◌≡◌, ℕ, zero, suc, ◌+◌, ◌*◌, ◌<◌, ◌≤◌, ◌-◌, ◌^◌, List, take, drop, slice_index, min, refl, sym, ap, ◌∙◌, arith, ◌⊎◌, inl, inr, add-zero}
use Rattle.std.proofs.lemmas.List.{get_or-take, get_or-drop}
use Rattle.kmc_base.specs.Lemmas.Powers.{pow_up}
use Rattle.kmc_split.specs.Minima.{low}

first_or_later : (i j : ℕ) → i ≤ j → (j ≡ i) ⊎ (i + 1 ≤ j)
first_or_later i j h = grind arith

min_cases : (a b : ℕ) → ((min a b ≡ a) × (a ≤ b)) ⊎ ((min a b ≡ b) × (b ≤ a))
min_cases a b = grind arith

module _ (at : ℕ → ℕ) where
  pub low_le : (w i j : ℕ) → i ≤ j → j < i + w → low at w i ≤ at j
  low_le zero i j from to = absurd (omega arith)
  low_le (suc zero) i j from to =
      let e : i ≡ j = omega arith in
      let f : at i ≡ at j = ap at e in omega arith
  low_le (suc (suc w)) i j from to =
      elim (first_or_later i j from) [
        | inl e ↦ let f : at j ≡ at i = ap at e in omega (arith, min_cases (at i) (low at (suc w) (i + 1)))
        | inr h ↦ let rest : low at (suc w) (i + 1) ≤ at j = low_le (suc w) (i + 1) j h (omega arith) in omega
            (arith, min_cases (at i) (low at (suc w) (i + 1)))
      ]

  pub low_is : (w i : ℕ) → 1 ≤ w → (j : ℕ) × (i ≤ j) × (j < i + w) × (low at w i ≡ at j)
  low_is zero i some = absurd (omega arith)
  low_is (suc zero) i some = (i, omega arith, omega arith, refl)
  low_is (suc (suc w)) i some =
      let rest = low_is (suc w) (i + 1) (omega arith) in
      elim (min_cases (at i) (low at (suc w) (i + 1))) [
        | inl h ↦ (i, omega arith, omega arith, h.0)
        | inr h ↦ (rest.0, omega arith, omega arith, h.0 ∙ rest.3)
      ]

  pub low_join : (w d i : ℕ) → 1 ≤ d → d ≤ w → min (low at w i) (low at w (i + d)) ≡ low at (w + d) i
  low_join w d i some most =
      let left = low_is w i (omega arith) in
      let right = low_is w (i + d) (omega arith) in
      let all = low_is (w + d) i (omega arith) in
      let below_left : low at (w + d) i ≤ at left.0 = low_le (w + d) i left.0 (omega arith) (omega arith) in
      let below_right : low at (w + d) i ≤ at right.0 = low_le (w + d) i right.0 (omega arith) (omega arith) in
      let above : (low at w i ≤ at all.0) ⊎ (low at w (i + d) ≤ at all.0) = in_either all.0 all.1 all.2 in
      let cases = min_cases (low at w i) (low at w (i + d)) in
      omega arith
    where
      either : (j : ℕ) → (j < i + w) ⊎ (i + d ≤ j)
      either j = grind arith

      in_either : (j : ℕ) → i ≤ j → j < i + (w + d) → (low at w i ≤ at j) ⊎ (low at w (i + d) ≤ at j)
      in_either j from to =
          elim (either j) [
            | inl h ↦ inl (low_le w i j from h)
            | inr h ↦ inr (low_le w (i + d) j h (omega arith))
          ]

  -- four neighbouring windows make one
  pub low_join_four : (w i : ℕ) → 1 ≤ w
      → min (min (low at w i) (low at w (i + w))) (min (low at w (i + 2 * w)) (low at w (i + 3 * w))) ≡ low at (4 * w) i
  low_join_four w i some =
      let front = low_join w w i some (omega arith) in
      let back = low_join w w (i + 2 * w) some (omega arith) in
      let both = low_join (w + w) (w + w) i (omega arith) (omega arith) in
      let third : i + 3 * w ≡ i + 2 * w + w = omega arith in
      let half : i + 2 * w ≡ i + (w + w) = omega arith in
      let whole : w + w + (w + w) ≡ 4 * w = omega arith in
      ap (λ (j : ℕ). min (min (low at w i) (low at w (i + w))) (min (low at w (i + 2 * w)) (low at w j))) third
      ∙ (λ t. min (front t) (back t)) ∙ ap (λ (j : ℕ). min (low at (w + w) i) (low at (w + w) j)) half ∙ both ∙ ap (λ (n : ℕ). low at n i) whole

-- the candidates of two rows of places agree
pub low_shift : (at bt : ℕ → ℕ) (w i j : ℕ) → ((d : ℕ) → d ≤ w → at (i + d) ≡ bt (j + d)) → low at (suc w) i ≡ low bt (suc w) j
low_shift at bt zero i j same = ap at (sym (add-zero i)) ∙ same 0 (omega arith) ∙ ap bt (add-zero j)
low_shift at bt (suc w) i j same =
    let here : at i ≡ bt j = ap at (sym (add-zero i)) ∙ same 0 (omega arith) ∙ ap bt (add-zero j) in
    let rest = low_shift at bt w (i + 1) (j + 1)
    (λ d h. let e : i + 1 + d ≡ i + (d + 1) = omega arith in let f : j + (d + 1) ≡ j + 1 + d = omega arith in ap at e ∙ same (d + 1) (omega arith) ∙ ap bt f) in
    (λ t. min (here t) (rest t))

-- the values of one window, cut out of the list
pub low_slice : (w i j : ℕ) (xs : List ℕ) → 1 ≤ w → j ≡ i + w → low (slice_index (take (j - i) (drop i xs))) w 0 ≡ low (slice_index xs) w i
low_slice zero i j xs some e = absurd (omega arith)
low_slice (suc w) i j xs some e =
    let count : j - i ≡ suc w = omega arith in
    ap (λ n. low (slice_index (take n (drop i xs))) (suc w) 0) count
    ∙ low_shift (slice_index (take (suc w) (drop i xs))) (slice_index xs) w 0 i
    (λ d h. let z : 0 + d ≡ d = omega arith in
    ap (slice_index (take (suc w) (drop i xs))) z ∙ get_or-take (suc w) (drop i xs) d 0 (omega arith) ∙ get_or-drop i xs d 0)

-- backwards
pub low_back : (at bt : ℕ → ℕ) (n : ℕ) → ((j : ℕ) → j ≤ n → bt j ≡ at (n - j)) → low bt (suc n) 0 ≡ low at (suc n) 0
low_back at bt n back =
    let one = low_is bt (suc n) 0 (omega arith) in
    let two = low_is at (suc n) 0 (omega arith) in
    let one_there : bt one.0 ≡ at (n - one.0) = back one.0 (omega arith) in
    let place : n - (n - two.0) ≡ two.0 = omega arith in
    let two_there : bt (n - two.0) ≡ at two.0 = back (n - two.0) (omega arith) ∙ ap at place in
    let low_one : low at (suc n) 0 ≤ at (n - one.0) = low_le at (suc n) 0 (n - one.0) (omega arith) (omega arith) in
    let low_two : low bt (suc n) 0 ≤ bt (n - two.0) = low_le bt (suc n) 0 (n - two.0) (omega arith) (omega arith) in
    omega (arith, one.3, two.3)

-- fewer codes take less room
pub pow_rises : (m n : ℕ) → m ≤ n → 4 ^ m ≤ 4 ^ n
pow_rises m n h =
    let parts : (n - m) + m ≡ n = omega arith in
    rw parts at (pow_up m (n - m))

pub fits_most : (m : ℕ) → m ≤ 11 → 4 ^ m ≤ 4 ^ 11
fits_most m h = pow_rises m 11 h
