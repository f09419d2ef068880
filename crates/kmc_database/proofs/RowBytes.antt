-- The bytes of a row, as they are read.
use Rattle.std.proofs.Common.{◌≡◌, ℕ, ◌+◌, ◌-◌, ◌*◌, ◌/◌, ◌^◌, ◌<◌, ◌≤◌, List, [], ◌∷◌, ◌++◌, length, get_or, take, drop, refl, suc, sym, ap, subst, ◌∙◌, arith}
use Rattle.std.proofs.Math.Nat.{div-div-eq-div-mul, pow-succ'}
use Rattle.std.proofs.Math.Seq.{take-add}
use Rattle.std.proofs.lemmas.List.{take_more}
use Rattle.std.proofs.lemmas.Nat.{pow-add}
use Rattle.std.specs.Int.{bytes_high_first}
use Rattle.kmc_base.specs.Packed.{unpack}
use Rattle.kmc_base.specs.Record.{packed_codes}
use Rattle.kmc_base.specs.Lemmas.Powers.{pow_quad, pow_up}
use Rattle.kmc_database.specs.Layout.{IsLayout}
use Rattle.kmc_database.specs.Numbers.{low_first}
use Rattle.kmc_database.specs.Rows.{row_long, row_of}
use Rattle.kmc_database.specs.declared.layout.Layout.{Layout}
use Rattle.kmc_database.specs.Lemmas.Bytes.{bits_of_bytes, high_more, packed_high}
use Rattle.kmc_database.specs.Lemmas.Words.{bytes_behind, rest_is}

-- the highest part of a number with a byte more
pub part_kept : (i n b : ℕ) → b < 256 → (n * 256 + b) / 256 ^ (i + 1) ≡ n / 256 ^ i
part_kept i n b small =
    let above : (n * 256 + b) / 256 ≡ n = omega (arith, small) in
    let next : i + 1 ≡ suc i = omega arith in
    let power : 256 ^ (i + 1) ≡ 256 * 256 ^ i = ap (λ e. 256 ^ e) next ∙ pow-succ' 256 i in
    ap (λ d. (n * 256 + b) / d) power ∙ sym (div-div-eq-div-mul (n * 256 + b) 256 (256 ^ i)) ∙ ap (λ t. t / 256 ^ i) above

pub bytes_kept : (i n b : ℕ) (bytes : List ℕ) → b < 256 → i < length bytes → b ≡ get_or bytes i 0 → bytes_high_first i n ≡ take i bytes
    → bytes_high_first (i + 1) (n * 256 + b) ≡ take (i + 1) bytes
bytes_kept i n b bytes small inside is before =
    let next : i + 1 ≡ suc i = omega arith in
    ap (λ m. bytes_high_first m (n * 256 + b)) next
    ∙ high_more i n b small
    ∙ (λ j. before j ++ is j ∷ [])
    ∙ sym (take_more bytes i 0 inside)

module _ (l : Layout) (is : IsLayout l) where
  pub word_fits : (i n b : ℕ) → n < 4 ^ (l.prefix + 4 * i) → b < 256 → n * 256 + b < 4 ^ (l.prefix + 4 * (i + 1))
  word_fits i n b fits small =
      let more : l.prefix + 4 * (i + 1) ≡ 4 + (l.prefix + 4 * i) = omega arith in
      let power : 4 ^ (l.prefix + 4 * (i + 1)) ≡ 4 ^ 4 * 4 ^ (l.prefix + 4 * i) = ap (λ e. 4 ^ e) more ∙ pow-add 4 4 (l.prefix + 4 * i) in
      omega (arith, power, fits, small)

  pub word_room : (i n b : ℕ) → i < (l.k - l.prefix) / 4 → n < 4 ^ (l.prefix + 4 * i) → b < 256 → n * 256 + b < 2 ^ 128
  word_room i n b inside fits small =
      let e = l.prefix + 4 * (i + 1) in
      let few : e ≤ 64 = omega (arith, inside, is.inside, is.long) in
      let whole : 64 - e + e ≡ 64 = omega (arith, few) in
      let up : 4 ^ e ≤ 4 ^ 64 = subst (λ m. 4 ^ e ≤ 4 ^ m) whole (pow_up e (64 - e)) in
      let all : 4 ^ 64 ≡ 2 ^ 128 = refl in
      omega (arith, word_fits i n b fits small, up, all)

  pub bytes_of_rest : 256 ^ ((l.k - l.prefix) / 4) ≡ 4 ^ (l.k - l.prefix)
  bytes_of_rest =
      let s = (l.k - l.prefix) / 4 in
      let twice : 8 * s ≡ 2 * (l.k - l.prefix) = omega (arith, is.whole) in
      sym (bits_of_bytes s) ∙ ap (λ e. 2 ^ e) twice ∙ sym (pow_quad (l.k - l.prefix))

  -- all of the bytes were read
  pub part_whole : (n part : ℕ) → n / 256 ^ ((l.k - l.prefix) / 4) ≡ part → n / 4 ^ (l.k - l.prefix) ≡ part
  part_whole n part e = ap (λ d. n / d) (sym bytes_of_rest) ∙ e

  pub fits_whole : (n : ℕ) → n < 4 ^ (l.prefix + 4 * ((l.k - l.prefix) / 4)) → n < 4 ^ l.k
  fits_whole n fits =
      let sum : l.prefix + 4 * ((l.k - l.prefix) / 4) ≡ l.k = omega (arith, is.whole, is.inside) in
      subst (λ m. n < 4 ^ m) sum fits

  -- the row
  pub row_whole : (n count : ℕ) (bytes : List ℕ) → bytes_high_first ((l.k - l.prefix) / 4) n ≡ take ((l.k - l.prefix) / 4) bytes
      → low_first l.counter count ≡ take l.counter (drop ((l.k - l.prefix) / 4) bytes) → take (row_long l) bytes ≡ row_of l (unpack l.k n, count)
  row_whole n count bytes word number =
      let s = (l.k - l.prefix) / 4 in
      take-add s l.counter bytes
      ∙ (λ i. sym word i ++ sym number i)
      ∙ ap (λ (t : List ℕ). t ++ low_first l.counter count)
      (sym (packed_high s n) ∙ ap (λ m. packed_codes (unpack m n)) (bytes_behind l is n) ∙ ap packed_codes (sym (rest_is l is n)))
