-- The words of the first symbols of a record's number.
use Rattle.std.proofs.Common.{◌≡◌, ℕ, ◌+◌, ◌*◌, ◌-◌, ◌/◌, ◌%◌, ◌^◌, ◌<◌, ◌≤◌, List, ◌++◌, length, take, drop, map, Bool, true, false, nat_le, refl, sym, ap, ◌∙◌, arith, add-zero}
use Rattle.std.proofs.lemmas.Nat.{div-mul-add}
use Rattle.std.proofs.lemmas.List.{length-take, length-drop, length-take-le, take-take, take_at, drop_at, drop-append-le, take-append-le, drop-take}
use Rattle.std.proofs.lemmas.Bool.Decides.{nat_tests}
use Rattle.std.specs.Int.{bytes_high_first}
use Rattle.std.specs.List.{sum_by, range_with_len}
use Rattle.kmc_base.specs.declared.strands.Strands.{Strands}
use Rattle.kmc_base.specs.Packed.{unpack}
use Rattle.kmc_base.specs.Record.{codes_in}
use Rattle.kmc_base.specs.Strands.{key, keys}
use Rattle.kmc_base.specs.Words.{window}
use Rattle.kmc_base.specs.Lemmas.Codes.{are_codes}
use Rattle.kmc_base.specs.Lemmas.Keys.{AreWords, keys_are_words}
use Rattle.kmc_base.specs.Lemmas.NumberBytes.{codes_of_bytes}
use Rattle.kmc_base.specs.Lemmas.Packing.{length_unpack, unpack_low, unpack_split}
use Rattle.kmc_base.specs.Lemmas.Powers.{pow_quad, pow_some}
use Rattle.kmc_base.specs.Lemmas.Rolling.{codes_front}
use Rattle.kmc_record.specs.RecordKeys.{codes_of, symbols_of}
use Rattle.kmc_record.specs.Lemmas.KeyBytes.{codes_of_number}
use Rattle.kmc_count.specs.Waiting.{front_worth}
use Rattle.kmc_count.proofs.Pieces.{worth_in_two}

pub front_words : (strands : Strands) (k n : ℕ) (bs : List ℕ) → AreWords k (keys strands k (take n (codes_in bs)))
front_words strands k n bs = keys_are_words strands k (take n (codes_in bs)) (codes_front n (codes_in bs) (are_codes bs))

-- ---- a number moved up

-- the codes of a number that is moved up by some codes
moved_codes : (s x : ℕ) → s ≤ 64 → unpack 64 (x * 4 ^ s) ≡ drop s (unpack 64 x) ++ unpack s (x * 4 ^ s)
moved_codes s x inside =
    let y = x * 4 ^ s in
    let whole : y / 4 ^ s ≡ x = quotient s x in
    let a : unpack (64 + s) y ≡ unpack 64 x ++ unpack s y = unpack_split 64 s y ∙ ap (λ t. unpack 64 t ++ unpack s y) whole in
    let b : unpack (s + 64) y ≡ unpack s (y / 4 ^ 64) ++ unpack 64 y = unpack_split s 64 y in
    let same : s + 64 ≡ 64 + s = omega arith in
    sym (drop_at (unpack s (y / 4 ^ 64)) (unpack 64 y) s (length_unpack s (y / 4 ^ 64)))
    ∙ ap (drop s) (sym b ∙ ap (λ n. unpack n y) same ∙ a)
    ∙ drop-append-le s (unpack 64 x) (unpack s y) (omega (arith, length_unpack 64 x, inside))
  where
    quotient : (s x : ℕ) → x * 4 ^ s / 4 ^ s ≡ x
    quotient s x = ap (λ t. t / 4 ^ s) (sym (add-zero (x * 4 ^ s))) ∙ div-mul-add x (4 ^ s) 0 (pow_some s)

-- its first codes, in bytes
pub moved_front : (s n x : ℕ) → s + n ≤ 64 → take n (codes_in (bytes_high_first 16 (x * 2 ^ (2 * s) % 2 ^ 128))) ≡ take n (drop s (unpack 64 x))
moved_front s n x inside =
    let quad : 2 ^ (2 * s) ≡ 4 ^ s = sym (pow_quad s) in
    ap (take n) (codes_of_bytes 16 (x * 2 ^ (2 * s) % 2 ^ 128) ∙ unpack_low 64 (x * 2 ^ (2 * s)) ∙ ap (λ t. unpack 64 (x * t)) quad
    ∙ moved_codes s x (omega (arith, inside)))
    ∙ take-append-le n (drop s (unpack 64 x)) (unpack s (x * 4 ^ s)) (omega (arith, length_unpack 64 x, length-drop s (unpack 64 x), inside))

-- ---- what the first symbols are worth

module _ (strands : Strands) (k : ℕ) (g : List ℕ → ℕ) where
  -- fewer symbols than a word has
  pub no_word : (s : List ℕ) → length s < k → sum_by g (keys strands k s) ≡ 0
  no_word s short =
      let none : length s + 1 - k ≡ 0 = omega (arith, short) in
      ap (λ n. sum_by g (map (λ i. key strands (window k s i)) (range_with_len 0 n))) none

  pub no_front : (x d : ℕ) → d < k → front_worth strands k g x d ≡ 0
  no_front x d short = no_word (take d (unpack 64 x)) (omega (arith, length-take d (unpack 64 x), short))

  -- the words of the first `to` symbols are those of the first `from`, and those of the bytes of the number that is moved up
  pub front_grows : (x from to begin : ℕ) → 1 ≤ k → from < to → to < 64 → k ≤ to → begin ≡ from + 1 - k → front_worth strands k g x to
      ≡ front_worth strands k g x from + sum_by g (keys strands k (take (to - begin) (codes_in (bytes_high_first 16 (x * 2 ^ (2 * begin) % 2 ^ 128)))))
  front_grows x from to begin some up inside word is = go (nat_le k from) refl
    where
      s : List ℕ
      s = unpack 64 x

      long : length (take to s) ≡ to
      long = length-take-le to s (omega (arith, length_unpack 64 x, inside))

      behind : drop begin (take to s) ≡ take (to - begin) (codes_in (bytes_high_first 16 (x * 2 ^ (2 * begin) % 2 ^ 128)))
      behind =
          let parts : to ≡ begin + (to - begin) = omega (arith, is, up, some) in
          ap (λ n. drop begin (take n s)) parts ∙ drop-take begin (to - begin) s
          ∙ sym (moved_front begin (to - begin) x (omega (arith, parts, inside)))

      go : (b : Bool) → nat_le k from ≡ b → front_worth strands k g x to
          ≡ front_worth strands k g x from + sum_by g (keys strands k (take (to - begin) (codes_in (bytes_high_first 16 (x * 2 ^ (2 * begin) % 2 ^ 128)))))
      go true e =
          let more : k ≤ from = grind (arith, nat_tests) in
          let n : begin + (k - 1) ≡ from = omega (arith, is, more, some) in
          let two = worth_in_two strands k (take to s) begin some (omega (arith, long, is, up, more)) g in
          let front : take (begin + (k - 1)) (take to s) ≡ take from s =
          ap (λ m. take m (take to s)) n ∙ take-take from to s (omega (arith, up)) in
          two ∙ (λ i. sum_by g (keys strands k (front i)) + sum_by g (keys strands k (behind i)))
      go false e =
          let few : from < k = grind (arith, nat_tests) in
          let none : begin ≡ 0 = omega (arith, is, few) in
          let all : drop begin (take to s) ≡ take to s = ap (λ m. drop m (take to s)) none in
          let same : sum_by g (keys strands k (take to s)) ≡ sum_by g (keys strands k (take (to - begin)
          (codes_in (bytes_high_first 16 (x * 2 ^ (2 * begin) % 2 ^ 128))))) = ap (λ t. sum_by g (keys strands k t)) (sym all ∙ behind) in
          omega (arith, same, no_front x from few)

-- ---- records

-- the symbols of a record are the first of its number
pub front_of_record : (x : ℕ) → take (symbols_of x) (unpack 64 x) ≡ codes_of x
front_of_record x = ap (take (symbols_of x)) (sym (codes_of_bytes 16 x)) ∙ codes_of_number x

-- numbers that are alike above some bits begin with the same codes
pub alike_front : (m x y : ℕ) → m ≤ 64 → x / 2 ^ (128 - 2 * m) ≡ y / 2 ^ (128 - 2 * m) → take m (unpack 64 x) ≡ take m (unpack 64 y)
alike_front m x y inside same = front x ∙ ap (unpack m) high ∙ sym (front y)
  where
    behind : 2 ^ (128 - 2 * m) ≡ 4 ^ (64 - m)
    behind = let twice : 128 - 2 * m ≡ 2 * (64 - m) = omega arith in ap (λ n. 2 ^ n) twice ∙ sym (pow_quad (64 - m))

    high : x / 4 ^ (64 - m) ≡ y / 4 ^ (64 - m)
    high = ap (λ d. x / d) (sym behind) ∙ same ∙ ap (λ d. y / d) behind

    front : (p : ℕ) → take m (unpack 64 p) ≡ unpack m (p / 4 ^ (64 - m))
    front p =
        let parts : 64 ≡ m + (64 - m) = omega (arith, inside) in
        ap (take m) (ap (λ n. unpack n p) parts ∙ unpack_split m (64 - m) p)
        ∙ take_at (unpack m (p / 4 ^ (64 - m))) (unpack (64 - m) p) m (length_unpack m (p / 4 ^ (64 - m)))
