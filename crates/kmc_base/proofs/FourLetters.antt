-- The letters of four codes in a byte, in a table.
use Rattle.std.proofs.Common.{◌≡◌, ℕ, ◌+◌, ◌*◌, ◌-◌, ◌/◌, ◌%◌, ◌^◌, ◌<◌, true, List, length, get_or, refl, ap, ◌∙◌, arith}
use Rattle.kmc_base.specs.Words.{letter}
use Rattle.kmc_base.proofs.Tables.{agrees, found}

-- the letters of the byte i / 4, one after the other
abbrev pub letter_in : ℕ → ℕ
letter_in i = letter (i / 4 / 4 ^ (3 - i % 4) % 4)

in_byte : (b i r : ℕ) → i ≡ 4 * b + r → r < 4 → letter_in i ≡ letter (b / 4 ^ (3 - r) % 4)
in_byte b i r e h =
    let q : i / 4 ≡ b = omega arith in
    let s : i % 4 ≡ r = omega arith in
    (λ j. letter (q j / 4 ^ (3 - s j) % 4))

module _ (cs : List ℕ) (agree : agrees letter_in 0 cs ≡ true) (b : ℕ) (inside : 4 * b + 3 < length cs) where
  pub first_letter : get_or cs (4 * b) 0 ≡ letter (b / 64 % 4)
  first_letter = found letter_in cs (4 * b) agree (omega arith) ∙ in_byte b (4 * b) 0 (omega arith) (omega arith)

  pub second_letter : get_or cs (4 * b + 1) 0 ≡ letter (b / 16 % 4)
  second_letter = found letter_in cs (4 * b + 1) agree (omega arith) ∙ in_byte b (4 * b + 1) 1 refl (omega arith)

  pub third_letter : get_or cs (4 * b + 2) 0 ≡ letter (b / 4 % 4)
  third_letter = found letter_in cs (4 * b + 2) agree (omega arith) ∙ in_byte b (4 * b + 2) 2 refl (omega arith)

  pub last_letter : get_or cs (4 * b + 3) 0 ≡ letter (b % 4)
  last_letter =
      let whole : b / 1 % 4 ≡ b % 4 = omega arith in
      found letter_in cs (4 * b + 3) agree inside ∙ in_byte b (4 * b + 3) 3 refl (omega arith) ∙ ap letter whole
