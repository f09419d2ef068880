-- A row that is told from its bytes.
use Rattle.std.proofs.Common.{◌≡◌, ℕ, ◌+◌, ◌-◌, ◌*◌, ◌/◌, ◌^◌, ◌<◌, ◌≤◌, true, List, ◌++◌, length, take, drop, sym, ap, subst, ◌∙◌, arith, length-append}
use Rattle.std.proofs.Math.Nat.{div-lt_iff_lt-mul}
use Rattle.std.proofs.Math.Seq.{take-add}
use Rattle.std.proofs.lemmas.List.{length-take, length-take-le}
use Rattle.std.proofs.lemmas.Nat.{pow-add}
use Rattle.std.specs.Int.{bytes_high_first}
use Rattle.std.specs.List.{AllByRecursion}
use Rattle.kmc_base.specs.Packed.{unpack}
use Rattle.kmc_base.specs.Record.{packed_codes}
use Rattle.kmc_base.specs.Lemmas.NumberBytes.{are_bytes, length_bytes}
use Rattle.kmc_base.specs.Lemmas.Powers.{pow_some}
use Rattle.kmc_database.specs.DumpText.{row_in}
use Rattle.kmc_database.specs.Layout.{IsLayout}
use Rattle.kmc_database.specs.Numbers.{low_first}
use Rattle.kmc_database.specs.Numerals.{has_at, low_number, with_digits}
use Rattle.kmc_database.specs.Rows.{first_part, row_long, row_of}
use Rattle.kmc_database.specs.TakenRow.{pair_of_row}
use Rattle.kmc_database.specs.declared.layout.Layout.{Layout}
use Rattle.kmc_database.specs.declared.row_reading.Row.{Row}
use Rattle.kmc_database.specs.Lemmas.Bytes.{length_low, packed_high}
use Rattle.kmc_database.proofs.Numerals.{above_digits, digits_of, low_of, low_small, stands_at}
use Rattle.kmc_database.proofs.ReadBack.{cut_same}
use Rattle.kmc_database.proofs.RowBytes.{bytes_of_rest}
use Rattle.kmc_database.specs.Lemmas.Words.{bytes_behind, part_is, rest_is}

module _ (l : Layout) (is : IsLayout l) where
  -- the symbols behind the first part, in their bytes
  pub word_bytes : (n : ℕ) → packed_codes (drop l.prefix (unpack l.k n)) ≡ bytes_high_first ((l.k - l.prefix) / 4) n
  word_bytes n =
      let s = (l.k - l.prefix) / 4 in
      ap packed_codes (rest_is l is n) ∙ ap (λ m. packed_codes (unpack m n)) (sym (bytes_behind l is n)) ∙ packed_high s n

  pub long_row : (row : Row) → length (row_of l (pair_of_row l row)) ≡ row_long l
  long_row row =
      length-append (packed_codes (drop l.prefix (unpack l.k row.packed))) (low_first l.counter row.count)
      ∙ (λ i. (ap length (word_bytes row.packed) ∙ length_bytes ((l.k - l.prefix) / 4) row.packed) i + length_low l.counter row.count i)

  module _ (part : ℕ) (row : Row) (s : List ℕ) (front : take (row_long l) s ≡ row_of l (pair_of_row l row)) where
    pub row_there : has_at s 0 (row_of l (pair_of_row l row)) ≡ true
    row_there = stands_at s 0 (row_long l) (row_of l (pair_of_row l row)) (long_row row) front

    pub parts : (take ((l.k - l.prefix) / 4) s ≡ packed_codes (drop l.prefix (unpack l.k row.packed)))
        × (take l.counter (drop ((l.k - l.prefix) / 4) s) ≡ low_first l.counter row.count)
    parts =
        let size = (l.k - l.prefix) / 4 in
        let word = packed_codes (drop l.prefix (unpack l.k row.packed)) in
        let long : length word ≡ size = ap length (word_bytes row.packed) ∙ length_bytes size row.packed in
        let all : length (take (row_long l) s) ≡ row_long l = ap length front ∙ long_row row in
        let both : take size s ++ take l.counter (drop size s) ≡ word ++ low_first l.counter row.count = sym (take-add size l.counter s) ∙ front in
        let enough : size ≤ length s = omega (arith, all, length-take (row_long l) s) in
        cut_same (take size s) (take l.counter (drop size s)) word (low_first l.counter row.count)
        (length-take-le size s enough ∙ sym long) both

    pub row_told : first_part l (unpack l.k row.packed) ≡ part → row.packed < 4 ^ l.k → row.count < 256 ^ l.counter → row_in l part s ≡ row
    row_told first fits small =
        let size = (l.k - l.prefix) / 4 in
        let high : part ≡ row.packed / 256 ^ size =
        sym first ∙ part_is l is row.packed fits ∙ ap (λ d. row.packed / d) (sym (bytes_of_rest l is)) in
        let packed : with_digits part (take size s) ≡ row.packed =
        (λ i. with_digits (high i) ((parts.0 ∙ word_bytes row.packed) i)) ∙ digits_of size row.packed in
        let count : low_number (take l.counter (drop size s)) ≡ row.count =
        ap low_number parts.1 ∙ low_of l.counter row.count small in
        (λ i. record { packed = packed i; count = count i })

    -- the bytes of a row tell a word of this first part and a count that fits its bytes
    pub row_sound : row_in l part s ≡ row → part < 4 ^ l.prefix
        → (row.packed < 4 ^ l.k) × (first_part l (unpack l.k row.packed) ≡ part) × (row.count < 256 ^ l.counter)
    row_sound told low =
        let size = (l.k - l.prefix) / 4 in
        let behind = l.k - l.prefix in
        let bytes : take size s ≡ bytes_high_first size row.packed = parts.0 ∙ word_bytes row.packed in
        let long : length (take size s) ≡ size = ap length bytes ∙ length_bytes size row.packed in
        let small : AllByRecursion (λ b. b < 256) (take size s) = subst (AllByRecursion (λ b. b < 256)) (sym bytes) (are_bytes size row.packed) in
        let packed : with_digits part (take size s) ≡ row.packed = ap (λ (r : Row). r.packed) told in
        let high : row.packed / 4 ^ behind ≡ part =
        (λ i. sym packed i / (sym (bytes_of_rest l is) ∙ ap (λ e. 256 ^ e) (sym long)) i) ∙ above_digits part (take size s) small in
        let sum : l.k ≡ l.prefix + behind = omega (arith, is.inside) in
        let whole : 4 ^ l.k ≡ 4 ^ l.prefix * 4 ^ behind = ap (λ e. 4 ^ e) sum ∙ pow-add 4 l.prefix behind in
        let fits : row.packed < 4 ^ l.k =
        subst (λ m. row.packed < m) (sym whole) ((div-lt_iff_lt-mul (pow_some behind)).0 (omega (arith, high, low))) in
        let count : low_number (take l.counter (drop size s)) ≡ row.count = ap (λ (r : Row). r.count) told in (
          fits,
          part_is l is row.packed fits ∙ high,
          omega (arith, sym (ap low_number parts.1) ∙ count, low_small l.counter row.count),
        )
