-- The symbols of bytes as one number, and those of the other strand.
use Rattle.std.proofs.Common.{◌≡◌, ℕ, ◌+◌, ◌-◌, ◌*◌, ◌/◌, ◌%◌, ◌^◌, ◌<◌, ◌≤◌, min, Bool, true, false, nat_le, List, length, take, drop, refl, sym, ap, ◌∙◌, arith, le_refl, mod-eq_of_lt, length-drop}
use Rattle.std.proofs.lemmas.List.{take-append-drop, take-take, length-take-le}
use Rattle.std.proofs.lemmas.Nat.{pow-add, div-mul-add, mod-mul-add, mul-le}
use Rattle.std.proofs.lemmas.Bool.Decides.{nat_tests}
use Rattle.kmc_base.specs.declared.strands.Strands.{Strands}
use Rattle.kmc_base.specs.declared.strands.Strands.TheVariants.{Joined, Apart}
use Rattle.kmc_base.specs.Packed.{pack}
use Rattle.kmc_base.specs.Strands.{key, packed_key}
use Rattle.kmc_base.specs.Words.{rev_comp}
use Rattle.kmc_base.specs.Lemmas.Packs.{AreCodes, pack_parts, pack_fits, pack_canonical, length_rev_comp, codes_rev_comp, rev_comp_join}
use Rattle.kmc_base.specs.Lemmas.Powers.{pow_quad, pow_some}
use Rattle.kmc_base.specs.Lemmas.Rolling.{codes_drop, codes_front}
use Rattle.kmc_base.specs.Record.{codes_in}
use Rattle.kmc_base.specs.Lemmas.Codes.{take_codes}

-- the first symbols of bytes are those of sixteen of them
pub first_of_sixteen : (n : ℕ) (bs padded : List ℕ) → n < 64 → n ≤ 4 * length bs → take (length bs) padded ≡ take 16 bs
    → take n (codes_in padded) ≡ take n (codes_in bs)
first_of_sixteen n bs padded most inside same =
    sym (ap (take n) (take_codes (length bs) padded) ∙ take-take n (4 * length bs) (codes_in padded) inside)
    ∙ ap (λ (t : List ℕ). take n (codes_in t)) same ∙ ap (take n) (take_codes 16 bs) ∙ take-take n 64 (codes_in bs) (omega arith)

-- the lesser of two is the lesser of as many times both
lesser_up : (a b c : ℕ) → min (a * c) (b * c) ≡ min a b * c
lesser_up a b c = go (nat_le a b) refl
  where
    go : (t : Bool) → nat_le a b ≡ t → min (a * c) (b * c) ≡ min a b * c
    go true e =
        let most : a ≤ b = grind (arith, nat_tests) in
        let least : min a b ≡ a = omega arith in
        let up : a * c ≤ b * c = mul-le a c b c most (le_refl c) in
        let own : min (a * c) (b * c) ≡ a * c = omega (arith, up) in
        own ∙ sym (ap (λ x. x * c) least)
    go false e =
        let most : b ≤ a = grind (arith, nat_tests) in
        let least : min a b ≡ b = omega arith in
        let up : b * c ≤ a * c = mul-le b c a c most (le_refl c) in
        let own : min (a * c) (b * c) ≡ b * c = omega (arith, up) in
        own ∙ sym (ap (λ x. x * c) least)

-- ---- the first n of 64 codes, at the top

module _ (w : List ℕ) (codes : AreCodes w) (all : length w ≡ 64) (n : ℕ) (most : n < 64) where
  abbrev s : List ℕ
  s = take n w

  abbrev rest : List ℕ
  rest = drop n w

  long : length s ≡ n
  long = length-take-le n w (omega (arith, all))

  long_rest : length rest ≡ 64 - n
  long_rest = omega (arith, length-drop n w, all)

  small : AreCodes s
  small = codes_front n w codes

  weight : 2 ^ (128 - 2 * n) ≡ 4 ^ (64 - n)
  weight =
      let twice : 128 - 2 * n ≡ 2 * (64 - n) = omega arith in
      ap (λ e. 2 ^ e) twice ∙ sym (pow_quad (64 - n))

  whole : 4 ^ n * 4 ^ (64 - n) ≡ 2 ^ 128
  whole =
      let sum : n + (64 - n) ≡ 64 = omega arith in
      sym (pow-add 4 n (64 - n)) ∙ ap (λ e. 4 ^ e) sum

  below : (p : ℕ) → p < 4 ^ n → p * 4 ^ (64 - n) < 2 ^ 128
  below p fits =
      let row : (p + 1) * 4 ^ (64 - n) ≤ 4 ^ n * 4 ^ (64 - n) = mul-le (p + 1) (4 ^ (64 - n)) (4 ^ n) (4 ^ (64 - n)) (omega (arith, fits)) (le_refl _) in
      omega (arith, row, whole, pow_some (64 - n))

  pub front_is : pack w / 2 ^ (128 - 2 * n) * 2 ^ (128 - 2 * n) % 2 ^ 128 ≡ pack s * 4 ^ (64 - n)
  front_is =
      let behind : pack rest < 4 ^ (64 - n) = rw long_rest at (pack_fits rest (codes_drop n w codes)) in
      let parts : pack w ≡ pack s * 4 ^ (64 - n) + pack rest =
      ap pack (sym (take-append-drop n w)) ∙ pack_parts s rest ∙ ap (λ e. pack s * 4 ^ e + pack rest) long_rest in
      let fits : pack s < 4 ^ n = rw long at (pack_fits s small) in
      (λ i. parts i / weight i * weight i % 2 ^ 128)
      ∙ ap (λ p. p * 4 ^ (64 - n) % 2 ^ 128) (div-mul-add (pack s) (4 ^ (64 - n)) (pack rest) behind) ∙ mod-eq_of_lt (below (pack s) fits)

  pub other_is : pack (rev_comp w) * 2 ^ (128 - 2 * n) % 2 ^ 128 ≡ pack (rev_comp s) * 4 ^ (64 - n)
  other_is =
      let h = pack (rev_comp rest) in
      let p = pack (rev_comp s) in
      let count : length (rev_comp s) ≡ n = length_rev_comp s ∙ long in
      let fits : p < 4 ^ n = rw count at (pack_fits (rev_comp s) (codes_rev_comp s)) in
      let parts : pack (rev_comp w) ≡ h * 4 ^ n + p =
      ap (λ (t : List ℕ). pack (rev_comp t)) (sym (take-append-drop n w)) ∙ ap pack (rev_comp_join s rest) ∙ pack_parts (rev_comp rest) (rev_comp s)
      ∙ ap (λ e. h * 4 ^ e + p) count in
      let up : h * (4 ^ n * 4 ^ (64 - n)) ≡ h * 2 ^ 128 = ap (λ t. h * t) whole in
      let split : (h * 4 ^ n + p) * 4 ^ (64 - n) ≡ h * 2 ^ 128 + p * 4 ^ (64 - n) = omega (arith, up) in
      (λ i. parts i * weight i % 2 ^ 128) ∙ ap (λ t. t % 2 ^ 128) split ∙ mod-mul-add h (2 ^ 128) (p * 4 ^ (64 - n)) (below p fits)

  pub key_of_both : (strands : Strands) → packed_key strands (pack s * 4 ^ (64 - n)) (pack (rev_comp s) * 4 ^ (64 - n)) ≡ pack (key strands s) * 4 ^ (64 - n)
  key_of_both Joined =
      lesser_up (pack s) (pack (rev_comp s)) (4 ^ (64 - n)) ∙ ap (λ p. p * 4 ^ (64 - n)) (sym (pack_canonical s small))
  key_of_both Apart = refl
