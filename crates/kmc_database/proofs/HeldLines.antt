-- A line in hand, and how long it is.
use Rattle.std.proofs.Common.{◌≡◌, ◌≢◌, ℕ, ◌+◌, ◌≤◌, ◌<◌, ◌^◌, ◌/◌, ◌%◌, List, [], ◌∷◌, ◌++◌, length, map, take, take_all, Option, Some, None, ap, sym, ◌∙◌, arith, decimal}
use Rattle.std.proofs.lemmas.Fmt.{decimal_step, length-decimal-le}
use Rattle.std.proofs.lemmas.List.{length-append, length-map}
use Rattle.kmc_base.specs.Lemmas.Packing.{length_unpack}
use Rattle.kmc_base.specs.Packed.{unpack}
use Rattle.kmc_base.specs.Words.{letter}
use Rattle.kmc_lists.specs.Line.{line_of}
use Rattle.kmc_database.proofs.LeftBytes.{some_same}
use Rattle.kmc_database.specs.HeldLine.{held_text, HoldsRow, IsLineInHand}
use Rattle.kmc_database.specs.declared.row_reading.Row.{Row}

-- a number of two digits or more has one more than its tenth
pub one_digit_more : (n : ℕ) → 10 ≤ n → n < 2 ^ 64 → length (decimal n) ≡ length (decimal (n / 10)) + 1
one_digit_more n two fits = ap length (decimal_step n two fits) ∙ length-append (decimal (n / 10)) ((48 + n % 10) ∷ [])

pub digits_few : (n : ℕ) → n < 2 ^ 64 → length (decimal n) ≤ 20
digits_few n fits = length-decimal-le 20 n (omega arith) (omega (arith, fits)) fits

-- a line of k letters ends behind two bytes more than its digits
pub line_ends : (k packed count : ℕ) → length (line_of (unpack k packed, count)) ≡ k + 2 + length (decimal count)
line_ends k packed count =
    let letters = map letter (unpack k packed) in
    omega (
      arith,
      length-append (letters ++ 9 ∷ decimal count) (10 ∷ []),
      length-append letters (9 ∷ decimal count),
      length-map (unpack k packed) letter,
      length_unpack k packed,
    )

-- the line of a row that is held
pub in_hand : (k packed count end : ℕ) (row : Option Row) (r : Row) (text now : List ℕ) → row ≡ Some r → packed ≡ r.packed → count ≡ r.count
    → HoldsRow k row text → now ≡ held_text k row text → count ≢ 0 → end ≡ k + 2 + length (decimal count)
    → IsLineInHand now text (record { k = k; packed = packed; count = count; end = end })
in_hand k packed count end None r text now is p q holds view some long = absurd (cc)
in_hand k packed count end (Some s) r text now is p q holds view some long =
    let same = some_same s r is in
    let word = ap (λ (x : Row). x.packed) same ∙ sym p in
    let number = ap (λ (x : Row). x.count) same ∙ sym q in
    let line = view ∙ ap (λ n. line_of (unpack k n, s.count)) word ∙ ap (λ n. line_of (unpack k packed, n)) number in
    let all = long ∙ sym (ap length line ∙ line_ends k packed count) in
    record {
      is = record {
        long = holds.0;
        fits = omega (arith, word, holds.1);
        some = omega (arith, some);
        most = omega (arith, number, holds.2);
        within = omega (arith, all);
        is = ap (λ n. take n now) all ∙ take_all (length now) now (omega arith) ∙ line;
      };
      all = all;
      none = holds.3;
    }
