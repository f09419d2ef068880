-- Numbers of parts, the slots that they use, and the uses.
use Rattle.std.proofs.Common.{◌≡◌, ℕ, suc, ◌+◌, ◌*◌, ◌/◌, ◌%◌, ◌<◌, ◌≤◌, ◌≢◌, sym, ap, ap₂, ◌∙◌, mod-lt, suc-mul, mul-le-mul_right, div-add-mod', lt_of_not-le, arith}
use mathlib.Core.Logic.{dite}
use native.Mathlib.Decide.{dec_le}
use native.Mathlib.Nat.{add-mod_right}
use lib.Arith.{digits_div}
use Rattle.atomic_table.proofs.Lists.{one_turn}

module _ (c : ℕ) where
  -- one slot and one use are one number
  pub one_number : (p q : ℕ) → q % c ≡ p % c → q / c ≡ p / c → q ≡ p
  one_number p q m d = sym (div-add-mod' q c) ∙ ap₂ (λ (a b : ℕ). a * c + b) d m ∙ div-add-mod' p c

  -- two numbers of one slot less than a turn apart are one number
  pub near_one : (p q : ℕ) → p < q + c → q < p + c → q % c ≡ p % c → q ≡ p
  near_one p q a b m =
      dite (dec_le p q) (λ le. sym (one_turn p q c le b (sym m))) (λ n. let lt : q < p = lt_of_not-le n in one_turn q p c (omega arith) a m)

  module _ (pos : 0 < c) where
    pub next_use : (h : ℕ) → (h + c) / c ≡ h / c + 1
    next_use h = let a : ℕ = h / c in let r : ℕ = h % c in let is : a * c + r ≡ h = div-add-mod' h c in let near : r < c = mod-lt h pos in
        ap (λ (z : ℕ). z / c) (let g : h + c ≡ suc a * c + r = omega (arith, suc-mul a c) in g) ∙ digits_div (suc a) near
        ∙ (let g : suc a ≡ a + 1 = omega arith in g)

    pub next_slot : (h : ℕ) → (h + c) % c ≡ h % c
    next_slot h = add-mod_right h c

  -- of two numbers of one slot the later has a later use
  pub later_use : (p q : ℕ) → p < q → p % c ≡ q % c → p / c < q / c
  later_use p q lt m =
      let a : ℕ = p / c in let b : ℕ = q / c in let i : ℕ = p % c in let j : ℕ = q % c in let m' : i ≡ j = m in
      let p' : a * c + i ≡ p = div-add-mod' p c in let q' : b * c + j ≡ q = div-add-mod' q c in
      dite (dec_le b a) (λ le. let x : ℕ = a * c in let y : ℕ = b * c in let le' : y ≤ x = mul-le-mul_right c le in absurd (omega arith))
      (λ no. lt_of_not-le no)

-- slots of different lanes are different
pub other_lane : (c w v i j : ℕ) → i < c → j < c → w ≢ v → w * c + i ≢ v * c + j
other_lane c w v i j a b n e = dite (dec_le (suc w) v)
    (λ lt. let m : suc w * c ≤ v * c = mul-le-mul_right c lt in let x : ℕ = w * c in let y : ℕ = v * c in let m' : x + c ≤ y = omega
    (arith, suc-mul w c) in let e' : x + i ≡ y + j = e in omega arith)
    (λ no. let lt : suc v ≤ w = (let g : v < suc w = lt_of_not-le no in omega arith) in let m : suc v * c ≤ w * c = mul-le-mul_right c lt in
    let x : ℕ = w * c in let y : ℕ = v * c in let m' : y + c ≤ x = omega (arith, suc-mul v c) in let e' : x + i ≡ y + j = e in omega arith)

pub lane_within : (c w n i : ℕ) → w < n → i < c → w * c + i < n * c
lane_within c w n i a b =
    let m : suc w * c ≤ n * c = mul-le-mul_right c a in let x : ℕ = w * c in let y : ℕ = n * c in
    let m' : x + c ≤ y = omega (arith, suc-mul w c) in omega arith
