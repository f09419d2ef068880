-- Items: packed words with weights in one number.
use Rattle.std.proofs.Common.{◌≡◌, ℕ, zero, suc, ◌+◌, ◌-◌, ◌*◌, ◌%◌, ◌^◌, ◌<◌, ◌≤◌, bit_and, ap, ◌∙◌, arith, le_refl, mod-eq_of_lt}
use Rattle.std.proofs.lemmas.Nat.{pow-add, mul-le, and_mask, pow_below}
use Rattle.std.proofs.Math.Nat.{pow-succ'}
use Rattle.std.proofs.Math.Pow.{pow_mono}
use Rattle.kmc_base.specs.Weights.{weighted}
use Rattle.kmc_base.specs.Lemmas.Powers.{pow_quad}

pub pow_two_some : (j : ℕ) → 1 ≤ 2 ^ j
pow_two_some zero = omega arith
pow_two_some (suc j) = omega (arith, pow_two_some j, pow-succ' 2 j)

-- an item fits b bits
pub item_room : (b k f w m : ℕ) → 2 * k + f ≤ b → w < 4 ^ k → 1 ≤ m → m ≤ 2 ^ f → w * 2 ^ f + m ≤ 2 ^ b
item_room b k f w m room fits once most =
    let e : 4 ^ k ≡ 2 ^ (2 * k) = pow_quad k in
    let j : 2 ^ (2 * k + f) ≡ 2 ^ (2 * k) * 2 ^ f = pow-add 2 (2 * k) f in
    let up : 2 ^ (2 * k + f) ≤ 2 ^ b = pow_mono room in
    let more : w + 1 ≤ 2 ^ (2 * k) = omega (arith, e, fits) in
    let whole : (w + 1) * 2 ^ f ≤ 2 ^ (2 * k) * 2 ^ f = mul-le (w + 1) (2 ^ f) (2 ^ (2 * k)) (2 ^ f) more (le_refl (2 ^ f)) in
    omega (arith, whole, j, up, most)

module _ (b f w m : ℕ) (there : (k : ℕ) × (1 ≤ k) × (2 * k + f ≤ b) × (w < 4 ^ k)) (once : 1 ≤ m) (most : m ≤ 2 ^ f) where
  shifted : w * 2 ^ f % 2 ^ b ≡ w * 2 ^ f
  shifted =
      let room = item_room b there.0 f w m there.2 there.3 once most in
      mod-eq_of_lt (omega (arith, room, once))

  pub weighted_fits : w * 2 ^ f % 2 ^ b + (m - 1) < 2 ^ b
  weighted_fits = omega (arith, shifted, item_room b there.0 f w m there.2 there.3 once most)

  pub weighted_is : w * 2 ^ f % 2 ^ b + (m - 1) ≡ weighted f m w
  weighted_is = ap (λ t. t + (m - 1)) shifted

module _ (b f n : ℕ) (less : f < b) where
  mask_is : 1 * 2 ^ f % 2 ^ b ≡ 2 ^ f
  mask_is =
      let one : 1 * 2 ^ f ≡ 2 ^ f = omega arith in
      let below : 1 * 2 ^ f < 2 ^ b = omega (arith, pow_below f b less) in
      mod-eq_of_lt below ∙ one

  pub low_bits : bit_and n (1 * 2 ^ f % 2 ^ b - 1) ≡ n % 2 ^ f
  low_bits = ap (λ t. bit_and n (t - 1)) mask_is ∙ and_mask n f
