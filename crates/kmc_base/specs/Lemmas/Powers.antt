-- Powers of four: as masks, and as the room of a number that holds so many codes.
use Rattle.std.proofs.Common.{◌≡◌, ℕ, zero, suc, ◌+◌, ◌*◌, ◌-◌, ◌/◌, ◌%◌, ◌^◌, ◌<◌, ◌≤◌, bit_and, bit_or, mod-eq_of_lt, le_refl, zero-add, suc-add, sym, ap, ◌∙◌, arith}
use Rattle.std.proofs.lemmas.Nat.{and_mask, or_shifted, pow-add, pow_pos, mul-pow, mod_below, mul-le}
use Rattle.std.proofs.lemmas.Nat.Bits.{ones_shr}
use Rattle.std.specs.Int.Bits.{or_shifted_r}
use Rattle.std.proofs.Math.Nat.{pow-succ'}
use Rattle.kmc_base.specs.declared.kmer.TheConstants.{MAX_K}
use Rattle.kmc_base.specs.Bytes.{turned, ahead_byte, behind_byte}

pub pow_up : (n d : ℕ) → 4 ^ n ≤ 4 ^ (d + n)
pow_up n zero = rw zero-add (le_refl _)
pow_up n (suc d) = rw suc-add (omega (arith, pow_up n d))

pub pow_quad : (j : ℕ) → 4 ^ j ≡ 2 ^ (2 * j)
pow_quad j =
    let twice : 2 * j ≡ j + j = omega arith in
    sym (ap (λ e. 2 ^ e) twice ∙ pow-add 2 j j ∙ sym (mul-pow 2 2 j))

pub pow_some : (j : ℕ) → 1 ≤ 4 ^ j
pow_some zero = omega arith
pow_some (suc j) = omega (arith, pow_some j, pow-succ' 4 j)

pub masked : (n t j : ℕ) → t ≡ 4 ^ j → bit_and n (t - 1) ≡ n % t
masked n t j e =
    let p : t ≡ 2 ^ (2 * j) = e ∙ pow_quad j in
    rw p (and_mask n (2 * j))

pub low_fits : (n t j : ℕ) → t ≡ 4 ^ j → n % t < 4 ^ j
low_fits n t j e = rw e (mod_below n (4 ^ j) (let h = pow_some j in omega arith))

-- ---- in a number that holds m codes

pub pow_most : (m j : ℕ) → j < m → 4 ^ j * 4 ≤ 4 ^ m
pow_most m j less =
    let parts : (m - suc j) + suc j ≡ m = omega arith in
    let up : 4 ^ suc j ≤ 4 ^ m = rw parts at (pow_up (suc j) (m - suc j)) in
    omega (arith, up, pow-succ' 4 j)

pub room_low : (m n t j c : ℕ) → t ≡ 4 ^ j → j < m → c < 4 → n % t * 4 + c < 4 ^ m
room_low m n t j c e less small = omega (arith, low_fits n t j e, pow_most m j less)

pub room_back : (m b t j c : ℕ) → t ≡ 4 ^ j → j < m → b < t → b + (3 - c) * t < 4 ^ m
room_back m b t j c e less below =
    let three : 3 - c ≤ 3 = omega arith in
    omega (arith, mul-le (3 - c) t 3 t three (le_refl t), pow_most m j less, e, below)

-- ---- the weight of the fourth of the codes

pub part_of_top : (t j : ℕ) → 3 ≤ j → t ≡ 4 ^ j → t / 64 ≡ 4 ^ (j - 3)
part_of_top t j least e =
    let parts : j ≡ suc (suc (suc (j - 3))) = omega arith in
    omega (arith, e, ap (λ n. 4 ^ n) parts, pow-succ' 4 (suc (suc (j - 3))), pow-succ' 4 (suc (j - 3)), pow-succ' 4 (j - 3))

pub parts_of_top : (t j : ℕ) → 3 ≤ j → t ≡ 4 ^ j → t ≡ t / 64 * 64
parts_of_top t j least e =
    let parts : j ≡ suc (suc (suc (j - 3))) = omega arith in
    omega (arith, e, ap (λ n. 4 ^ n) parts, pow-succ' 4 (suc (suc (j - 3))), pow-succ' 4 (suc (j - 3)), pow-succ' 4 (j - 3))

pub part_some : (t j : ℕ) → 3 ≤ j → t ≡ 4 ^ j → 1 ≤ t / 64
part_some t j least e = omega (arith, part_of_top t j least e, pow_some (j - 3))

-- ---- four codes at once, in a number that holds m codes

pub masked_part : (n t j : ℕ) → 3 ≤ j → t ≡ 4 ^ j → bit_and n (t / 64 - 1) ≡ n % (t / 64)
masked_part n t j least e = masked n (t / 64) (j - 3) (part_of_top t j least e)

pub room_low_byte : (m n t j b : ℕ) → 3 ≤ j → t ≡ 4 ^ j → j < m → b ≤ 255 → n % (t / 64) * 256 + b < 4 ^ m
room_low_byte m n t j b least e less small =
    let low : n % (t / 64) < t / 64 = mod_below n (t / 64) (omega (arith, part_some t j least e)) in
    omega (arith, low, parts_of_top t j least e, pow_most m j less)

pub room_back_byte : (m b t j r : ℕ) → 3 ≤ j → t ≡ 4 ^ j → j < m → b / 4 < t → r ≤ 255 → b / 256 + r * (t / 64) < 4 ^ m
room_back_byte m b t j r least e less below small =
    let high : b / 256 < t / 64 = omega (arith, parts_of_top t j least e) in
    omega (arith, high, mul-le r (t / 64) 255 (t / 64) small (le_refl (t / 64)), parts_of_top t j least e, pow_most m j less)

pub turned_most : (b r : ℕ) → r ≡ turned b → r ≤ 255
turned_most b r e = omega arith

-- ---- what a number that holds m codes gives at each step of a window

pub ones_of : (m k : ℕ) → k ≤ m → (2 ^ (2 * m) - 1) / 2 ^ (2 * m - 2 * k) + 1 ≡ 4 ^ k
ones_of m k within =
    let left : 2 * m - (2 * m - 2 * k) ≡ 2 * k = omega arith in
    let e = rw left at (ones_shr (2 * m) (2 * m - 2 * k) (omega arith)) in
    omega (arith, e, pow_quad k, pow_some k)

module _ (m n t : ℕ) (top : (j : ℕ) × (j < m) × (t ≡ 4 ^ j)) where
  pub top_some : 1 ≤ t
  top_some = omega (arith, pow_some top.0, top.2)

  pub ahead_is : (c r : ℕ) → c < 4 → r ≡ c → bit_or (bit_and n (t - 1) * 2 ^ 2 % 4 ^ m) r ≡ n % t * 4 + c
  ahead_is c r small e =
      let room = room_low m n t top.0 0 top.2 top.1 (omega arith) in
      let fits : n % t * 4 < 4 ^ m = omega arith in
      let whole : n % t * 4 % 4 ^ m ≡ n % t * 4 = mod-eq_of_lt fits in
      let few : r < 4 = omega arith in
      rw (masked n t top.0 top.2, whole, or_shifted (n % t) 2 r few, e)

  pub behind_fits : (c r : ℕ) → n / 4 < t → r ≡ 3 - c → n / 4 + r * t < 4 ^ m
  behind_fits c r back e = rw e (room_back m (n / 4) t top.0 c top.2 top.1 back)

module _ (m n t : ℕ) (top : (j : ℕ) × (3 ≤ j) × (j < m) × (t ≡ 4 ^ j)) where
  pub top_byte_some : 1 ≤ t / 64
  top_byte_some = part_some t top.0 top.1 top.3

  pub ahead_byte_is : (b r : ℕ) → b ≤ 255 → r ≡ b → bit_or (bit_and n (t / 64 - 1) * 2 ^ 8 % 4 ^ m) r ≡ ahead_byte t n b
  ahead_byte_is b r small e =
      let room = room_low_byte m n t top.0 0 top.1 top.3 top.2 (omega arith) in
      let fits : n % (t / 64) * 256 < 4 ^ m = omega arith in
      let whole : n % (t / 64) * 256 % 4 ^ m ≡ n % (t / 64) * 256 = mod-eq_of_lt fits in
      let few : r < 256 = omega arith in
      rw (masked_part n t top.0 top.1 top.3, whole, or_shifted (n % (t / 64)) 8 r few, e)

  module _ (b r : ℕ) (back : n / 4 < t) (e : r ≡ turned b) where
    pub behind_byte_fits : r * (t / 64) < 4 ^ m
    behind_byte_fits = omega (arith, room_back_byte m n t top.0 r top.1 top.3 top.2 back (turned_most b r e))

    pub behind_byte_is : bit_or (n / 256) (r * (t / 64)) ≡ behind_byte t n b
    behind_byte_is =
        let part : t / 64 ≡ 2 ^ (2 * (top.0 - 3)) = part_of_top t top.0 top.1 top.3 ∙ pow_quad (top.0 - 3) in
        let low : n / 256 < t / 64 = omega (arith, parts_of_top t top.0 top.1 top.3) in
        let joined : bit_or (n / 256) (r * (t / 64)) ≡ r * (t / 64) + n / 256 = rw part (or_shifted_r r (2 * (top.0 - 3)) (n / 256) (rw part at low)) in
        let same : r * (t / 64) ≡ turned b * (t / 64) = ap (λ z. z * (t / 64)) e in
        joined ∙ omega (arith, same)

-- all words of k codes by slots of s codes
pub all_slots : (k s : ℕ) → s ≤ k → k ≤ MAX_K → 2 ^ (2 * s) * 2 ^ (2 * (k - s)) ≤ 2 ^ 128
all_slots k s few most =
    let sum : 2 * s + 2 * (k - s) ≡ 2 * k = omega (arith, few) in
    let both : 2 ^ (2 * s) * 2 ^ (2 * (k - s)) ≡ 2 ^ (2 * k) = sym (pow-add 2 (2 * s) (2 * (k - s))) ∙ ap (λ n. 2 ^ n) sum in
    let rest : 2 * k + (128 - 2 * k) ≡ 128 = omega (arith, most) in
    let all : 2 ^ (2 * k) * 2 ^ (128 - 2 * k) ≡ 2 ^ 128 = sym (pow-add 2 (2 * k) (128 - 2 * k)) ∙ ap (λ n. 2 ^ n) rest in
    omega (arith, both, all, mul-le (2 ^ (2 * k)) 1 (2 ^ (2 * k)) (2 ^ (128 - 2 * k)) (le_refl (2 ^ (2 * k))) (pow_pos (128 - 2 * k)))
