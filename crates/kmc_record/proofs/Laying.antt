-- A record in a number of 128 bits.
use Rattle.std.proofs.Common.{◌≡◌, ℕ, ◌+◌, ◌-◌, ◌*◌, ◌/◌, ◌^◌, ◌<◌, ◌≤◌, List, length, refl, sym, ap, ◌∙◌, arith, le_refl}
use Rattle.std.proofs.lemmas.Nat.{pow-add, mul-le, div-mul-add}
use Rattle.kmc_base.specs.declared.strands.Strands.{Strands}
use Rattle.kmc_base.specs.Packed.{pack, unpack}
use Rattle.kmc_base.specs.Strands.{key}
use Rattle.kmc_record.specs.RecordKeys.{codes_of, symbols_of, packed_symbols}
use Rattle.kmc_base.specs.Lemmas.Keys.{key_is_word}
use Rattle.kmc_base.specs.Lemmas.Packs.{AreCodes, pack_fits, unpack_pack}
use Rattle.kmc_base.specs.Lemmas.Powers.{pow_some}

-- the number of n packed symbols
abbrev pub laid : ℕ → ℕ → ℕ
laid n p = p * 4 ^ (64 - n) + n

module _ (n p : ℕ) (most : n ≤ 61) where
  room_below : 4 ^ (64 - n) ≡ 64 * 4 ^ (61 - n)
  room_below =
      let parts : 64 - n ≡ 3 + (61 - n) = omega arith in
      ap (λ e. 4 ^ e) parts ∙ pow-add 4 3 (61 - n)

  n_below : n < 4 ^ (64 - n)
  n_below = omega (arith, room_below, pow_some (61 - n))

  pub symbols_laid : symbols_of (laid n p) ≡ n
  symbols_laid =
      let high : p * 4 ^ (64 - n) ≡ 64 * (p * 4 ^ (61 - n)) = ap (λ t. p * t) room_below ∙ omega arith in
      omega (arith, high)

  pub packed_laid : packed_symbols (laid n p) ≡ p
  packed_laid = ap (λ m. laid n p / 4 ^ (64 - m)) symbols_laid ∙ div-mul-add p (4 ^ (64 - n)) n n_below

  pub codes_laid : codes_of (laid n p) ≡ unpack n p
  codes_laid = λ i. unpack (symbols_laid i) (packed_laid i)

  -- it fits
  pub laid_fits : p < 4 ^ n → laid n p < 2 ^ 128
  laid_fits fits =
      let join : 4 ^ (n + (64 - n)) ≡ 4 ^ n * 4 ^ (64 - n) = pow-add 4 n (64 - n) in
      let parts : n + (64 - n) ≡ 64 = omega arith in
      let whole : 4 ^ n * 4 ^ (64 - n) ≡ 4 ^ 64 = sym join ∙ ap (λ e. 4 ^ e) parts in
      let up : (p + 1) * 4 ^ (64 - n) ≤ 4 ^ n * 4 ^ (64 - n) = mul-le (p + 1) (4 ^ (64 - n)) (4 ^ n) (4 ^ (64 - n)) (omega arith) (le_refl (4 ^ (64 - n))) in
      omega (arith, whole, up, n_below)

module _ (strands : Strands) (s : List ℕ) (h : AreCodes s) where
  pub key_fits : pack (key strands s) < 4 ^ length s
  key_fits =
      let is = key_is_word strands (length s) s (refl, h) in
      rw is.0 at (pack_fits (key strands s) is.1)

  pub codes_key : length s ≤ 61 → codes_of (laid (length s) (pack (key strands s))) ≡ key strands s
  codes_key most =
      let is = key_is_word strands (length s) s (refl, h) in
      codes_laid (length s) (pack (key strands s)) most ∙ ap (λ n. unpack n (pack (key strands s))) (sym is.0) ∙ unpack_pack (key strands s) is.1
