-- The two parts of a word.
use Rattle.std.proofs.Common.{◌≡◌, ℕ, ◌+◌, ◌-◌, ◌*◌, ◌/◌, ◌^◌, ◌<◌, ◌≤◌, List, ◌++◌, length, take, drop, sym, ap, subst, ◌∙◌, arith}
use Rattle.std.proofs.Math.Nat.{div-lt_iff_lt-mul}
use Rattle.std.proofs.Math.Seq.{drop-append_seam, take-append_seam}
use Rattle.std.proofs.lemmas.Nat.{pow-add}
use Rattle.std.specs.Int.{bytes_high_first, to_le_bytes, w64}
use Rattle.kmc_base.specs.Packed.{pack, unpack}
use Rattle.kmc_base.specs.Record.{packed_codes}
use Rattle.kmc_base.specs.Lemmas.Packing.{length_unpack, pack_of_unpack, unpack_split}
use Rattle.kmc_base.specs.Lemmas.Powers.{pow_some}
use Rattle.kmc_database.specs.Layout.{IsLayout}
use Rattle.kmc_database.specs.Numbers.{low_first}
use Rattle.kmc_database.specs.Rows.{first_part, row_of}
use Rattle.kmc_database.specs.declared.layout.Layout.{Layout}
use Rattle.kmc_database.specs.Lemmas.Bytes.{first_of_eight, last_of_sixteen, packed_high}

-- a packed word, and that word cut in two
module _ (l : Layout) (is : IsLayout l) (n : ℕ) where
  abbrev behind : ℕ
  behind = l.k - l.prefix

  abbrev front : List ℕ
  front = unpack l.prefix (n / 4 ^ behind)

  abbrev rest : List ℕ
  rest = unpack behind n

  cut : unpack l.k n ≡ front ++ rest
  cut =
      let sum : l.k ≡ l.prefix + behind = omega (arith, is.inside) in
      ap (λ m. unpack m n) sum ∙ unpack_split l.prefix behind n

  front_is : take l.prefix (unpack l.k n) ≡ front
  front_is =
      let long : length front ≡ l.prefix = length_unpack l.prefix (n / 4 ^ behind) in
      ap (take l.prefix) cut ∙ ap (λ m. take m (front ++ rest)) (sym long) ∙ take-append_seam front rest

  pub rest_is : drop l.prefix (unpack l.k n) ≡ rest
  rest_is =
      let long : length front ≡ l.prefix = length_unpack l.prefix (n / 4 ^ behind) in
      ap (drop l.prefix) cut ∙ ap (λ m. drop m (front ++ rest)) (sym long) ∙ drop-append_seam front rest

  pub part_fits : n < 4 ^ l.k → n / 4 ^ behind < 4 ^ l.prefix
  part_fits fits =
      let sum : l.k ≡ l.prefix + behind = omega (arith, is.inside) in
      let whole : 4 ^ l.k ≡ 4 ^ l.prefix * 4 ^ behind = ap (λ m. 4 ^ m) sum ∙ pow-add 4 l.prefix behind in
      (div-lt_iff_lt-mul (pow_some behind)).1 (subst (λ m. n < m) whole fits)

  pub part_is : n < 4 ^ l.k → first_part l (unpack l.k n) ≡ n / 4 ^ behind
  part_is fits = ap pack front_is ∙ pack_of_unpack l.prefix (n / 4 ^ behind) (part_fits fits)

  -- the symbols behind the first part fill whole bytes
  pub bytes_behind : 4 * (behind / 4) ≡ behind
  bytes_behind = omega (arith, is.whole)

  pub few_bytes : behind / 4 ≤ 15
  few_bytes = omega (arith, is.long, is.some)

  pub row_is : (count : ℕ) → row_of l (unpack l.k n, count)
      ≡ drop (16 - behind / 4) (bytes_high_first 16 n) ++ take l.counter (to_le_bytes w64 count)
  row_is count =
      let word : packed_codes (drop l.prefix (unpack l.k n)) ≡ drop (16 - behind / 4) (bytes_high_first 16 n) =
      ap packed_codes (rest_is ∙ ap (λ m. unpack m n) (sym bytes_behind))
      ∙ packed_high (behind / 4) n
      ∙ sym (last_of_sixteen (behind / 4) n (omega (arith, few_bytes))) in
      let number : low_first l.counter count ≡ take l.counter (to_le_bytes w64 count) = sym (first_of_eight l.counter count (omega (arith, is.counter))) in
      (λ i. word i ++ number i)
