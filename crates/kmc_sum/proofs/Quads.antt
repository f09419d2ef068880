-- The letters of four codes in a number, in a table.
use Rattle.std.proofs.Common.{◌≡◌, ℕ, zero, suc, ◌+◌, ◌*◌, ◌/◌, ◌%◌, ◌<◌, List, map, get_or, sym, ap, ◌∙◌, arith}
use Rattle.std.proofs.lemmas.List.FromFn.{get_or-map-range_with_len}
use Rattle.std.specs.List.{range_with_len}
use Rattle.kmc_base.specs.Words.{letter}

-- the letters of the four codes of a byte, as a number: the first letter is the lowest byte
abbrev pub quad_number : ℕ → ℕ
quad_number q = (letter (q / 64) + letter (q / 16 % 4) * 256) + (letter (q / 4 % 4) + letter (q % 4) * 256) * 65536

small_letter : (c : ℕ) → letter c < 256
small_letter zero = omega arith
small_letter (suc zero) = omega arith
small_letter (suc (suc zero)) = omega arith
small_letter (suc (suc (suc zero))) = omega arith
small_letter (suc (suc (suc (suc c)))) = omega arith

-- four bytes are the letters of the place in the table at which their number stands
pub quad_is : (table : List ℕ) (q a b c d : ℕ) → table ≡ map quad_number (range_with_len 0 256) → q < 256 → a < 256 → b < 256 → c < 256 → d < 256
    → get_or table q 0 ≡ (a + b * 256) + (c + d * 256) * 65536
    → (a ≡ letter (q / 64)) × (b ≡ letter (q / 16 % 4)) × (c ≡ letter (q / 4 % 4)) × (d ≡ letter (q % 4))
quad_is table q a b c d is inside ha hb hc hd found =
    let same : quad_number q ≡ (a + b * 256) + (c + d * 256) * 65536 =
    sym (get_or-map-range_with_len quad_number 0 256 q q 0 inside (omega arith)) ∙ sym (ap (λ (t : List ℕ). get_or t q 0) is) ∙ found in
    parts (letter (q / 64)) (letter (q / 16 % 4)) (letter (q / 4 % 4)) (letter (q % 4)) (small_letter _) (small_letter _) (small_letter _) (small_letter _) same
  where
    parts : (e f g h : ℕ) → e < 256 → f < 256 → g < 256 → h < 256 → (e + f * 256) + (g + h * 256) * 65536 ≡ (a + b * 256) + (c + d * 256) * 65536
        → (a ≡ e) × (b ≡ f) × (c ≡ g) × (d ≡ h)
    parts e f g h he hf hg hh same =
        (omega (arith, same), omega (arith, same), omega (arith, same), omega (arith, same))

-- the first three, the first two, the first of four bytes are letters of the place in the table where that much of their number is the same
module _ (table : List ℕ) (q a b c d : ℕ) (is : table ≡ map quad_number (range_with_len 0 256)) (inside : q < 256)
    (ha : a < 256) (hb : b < 256) (hc : c < 256) (hd : d < 256) where
  numbered : get_or table q 0 ≡ quad_number q
  numbered = ap (λ (t : List ℕ). get_or t q 0) is ∙ get_or-map-range_with_len quad_number 0 256 q q 0 inside (omega arith)

  pub three_are : get_or table q 0 % 16777216 ≡ ((a + b * 256) + (c + d * 256) * 65536) % 16777216
      → (a ≡ letter (q / 64)) × (b ≡ letter (q / 16 % 4)) × (c ≡ letter (q / 4 % 4))
  three_are found =
      let same : quad_number q % 16777216 ≡ ((a + b * 256) + (c + d * 256) * 65536) % 16777216 = ap (λ n. n % 16777216) (sym numbered) ∙ found in
      parts (letter (q / 64)) (letter (q / 16 % 4)) (letter (q / 4 % 4)) (letter (q % 4)) (small_letter _) (small_letter _) (small_letter _) (small_letter _) same
    where
      parts : (e f g h : ℕ) → e < 256 → f < 256 → g < 256 → h < 256
          → ((e + f * 256) + (g + h * 256) * 65536) % 16777216 ≡ ((a + b * 256) + (c + d * 256) * 65536) % 16777216 → (a ≡ e) × (b ≡ f) × (c ≡ g)
      parts e f g h he hf hg hh same =
          let low : e + f * 256 + g * 65536 ≡ a + b * 256 + c * 65536 = omega (arith, same) in
          (omega (arith, low), omega (arith, low), omega (arith, low))

  pub two_are : get_or table q 0 % 65536 ≡ ((a + b * 256) + (c + d * 256) * 65536) % 65536
      → (a ≡ letter (q / 64)) × (b ≡ letter (q / 16 % 4))
  two_are found =
      let same : quad_number q % 65536 ≡ ((a + b * 256) + (c + d * 256) * 65536) % 65536 = ap (λ n. n % 65536) (sym numbered) ∙ found in
      parts (letter (q / 64)) (letter (q / 16 % 4)) (letter (q / 4 % 4)) (letter (q % 4)) (small_letter _) (small_letter _) (small_letter _) (small_letter _) same
    where
      parts : (e f g h : ℕ) → e < 256 → f < 256 → g < 256 → h < 256
          → ((e + f * 256) + (g + h * 256) * 65536) % 65536 ≡ ((a + b * 256) + (c + d * 256) * 65536) % 65536 → (a ≡ e) × (b ≡ f)
      parts e f g h he hf hg hh same =
          let low : e + f * 256 ≡ a + b * 256 = omega (arith, same) in
          (omega (arith, low), omega (arith, low))

  pub one_is : get_or table q 0 % 256 ≡ ((a + b * 256) + (c + d * 256) * 65536) % 256 → a ≡ letter (q / 64)
  one_is found =
      let same : quad_number q % 256 ≡ ((a + b * 256) + (c + d * 256) * 65536) % 256 = ap (λ n. n % 256) (sym numbered) ∙ found in
      parts (letter (q / 64)) (letter (q / 16 % 4)) (letter (q / 4 % 4)) (letter (q % 4)) (small_letter _) (small_letter _) (small_letter _) (small_letter _) same
    where
      parts : (e f g h : ℕ) → e < 256 → f < 256 → g < 256 → h < 256
          → ((e + f * 256) + (g + h * 256) * 65536) % 256 ≡ ((a + b * 256) + (c + d * 256) * 65536) % 256 → a ≡ e
      parts e f g h he hf hg hh same = omega (arith, same)

pub top_byte : (m : ℕ) → m % 4294967296 / 16777216 < 256
top_byte m = omega arith
