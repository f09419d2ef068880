-- What stands at the front of bytes.
use Rattle.std.proofs.Common.{◌≡◌, ℕ, zero, suc, ◌+◌, ◌-◌, ◌<◌, ◌≤◌, ◌^◌, ◌⊎◌, inl, inr, List, [], ◌∷◌, ◌++◌, length, take, drop, get_or, map, decimal, refl, sym, ap, subst, ◌∙◌, arith, append_assoc, length-append}
use Rattle.std.proofs.Math.Seq.{take-add}
use Rattle.std.proofs.lemmas.List.{get_or_append_left, get_or-append_right, get_or-take, take_more, take_at, drop_at, take_rest, length-map, length-take-le}
use Rattle.std.proofs.lemmas.Bool.{cases_order}
use Rattle.std.proofs.lemmas.Fmt.{decimal_is_IsNumeral, length-decimal-le, decimal_nonempty, first_decimal, decimal-digits_value, decimal_digit}
use Rattle.std.proofs.lemmas.Str.Parse.{numerals_by_value, tells_by_index, digit_at}
use Rattle.std.specs.Str.Parse.{digits_value}
use Rattle.std.specs.Int.{IsInRange}
use Rattle.kmc_base.specs.Words.{letter}
use Rattle.kmc_base.specs.Packed.{unpack}
use Rattle.kmc_base.specs.Lemmas.Packs.{AreCodes}
use Rattle.kmc_lists.specs.Line.{line_of}
use Rattle.kmc_sum.specs.Listed.{IsLength, IsPair}
use Rattle.kmc_sum.specs.Line.{IsLetter}

-- the longest run at the front, up to a length, ends before the first byte that is not of it
module _ (P : ℕ → Type 0) (xs front more : List ℕ) (t n cap : ℕ) (is : xs ≡ front ++ t ∷ more) where
  at_end : get_or xs (length front) 0 ≡ t
  at_end = ap (λ (l : List ℕ). get_or l (length front) 0) is ∙ get_or-append_right front (t ∷ more) (length front) (length front) 0 refl (omega arith)
      ∙ (let none : length front - length front ≡ 0 = omega arith in ap (λ m. get_or (t ∷ more) m 0) none)

  in_front : (i : ℕ) → i < length front → get_or xs i 0 ≡ get_or front i 0
  in_front i inside = ap (λ (l : List ℕ). get_or l i 0) is ∙ get_or_append_left front (t ∷ more) 0 i inside

  long : length xs ≡ length front + suc (length more)
  long = ap length is ∙ length-append front (t ∷ more)

  pub run_is : ((i : ℕ) → i < length front → P (get_or front i 0)) → (P t → ⊥) → length front ≤ cap → ((i : ℕ) → i < n → P (get_or xs i 0))
      → (n < cap → n < length xs → P (get_or xs n 0) → ⊥) → n ≡ length front
  run_is all other short each ends = go (cases_order n (length front))
    where
      go : (n ≡ length front) ⊎ ((n < length front) ⊎ (length front < n)) → n ≡ length front
      go (inl same) = same
      go (inr (inl less)) = absurd (ends (omega arith) (omega (arith, long)) (subst P (sym (in_front n less)) (all n less)))
      go (inr (inr above)) = absurd (other (subst P at_end (each (length front) above)))

-- ---- a number

abbrev AreDigits : List ℕ → Type 0
AreDigits ds = (i : ℕ) → i < length ds → IsInRange 48 57 (get_or ds i 0)

module _ (xs : List ℕ) (m value : ℕ) (within : m ≤ length xs) (is : value ≡ digits_value 10 (take m xs))
    (each : (i : ℕ) → i < m → IsInRange 48 57 (get_or xs i 0)) where
  module _ (ends : m < 20 → m < length xs → IsInRange 48 57 (get_or xs m 0) → ⊥) (n : ℕ) (more : List ℕ) (some : 1 ≤ n) (most : n < 2 ^ 64)
      (e : xs ≡ decimal n ++ 10 ∷ more) where
    pub ends_at : m ≡ length (decimal n)
    ends_at =
        let numeral = decimal_is_IsNumeral n most in
        run_is (IsInRange 48 57) xs (decimal n) more 10 m 20 e (λ i inside. digit_at (decimal n) i numeral.0.1 inside) (λ h. omega (arith, h.0))
        (length-decimal-le 20 n (omega arith) (omega (arith, most)) most) each ends

    pub not_none : m ≡ 0 → ⊥
    not_none z = omega (arith, ends_at, z, decimal_nonempty n most)

    pub not_all : m ≡ length xs → ⊥
    not_all z = omega (arith, ends_at, z, long (IsInRange 48 57) xs (decimal n) more 10 m 20 e)

    pub no_zero : get_or xs 0 0 ≡ 48 → ⊥
    no_zero z =
        let first = first_decimal n some most in
        let same = in_front (IsInRange 48 57) xs (decimal n) more 10 m 20 e 0 (decimal_nonempty n most) in
        omega (arith, first, same, z)

    pub line_feed : get_or xs m 0 ≡ 10
    line_feed = ap (λ i. get_or xs i 0) ends_at ∙ at_end (IsInRange 48 57) xs (decimal n) more 10 m 20 e

    pub value_is : value ≡ n
    value_is =
        is ∙ ap (digits_value 10) (ap (λ i. take i xs) ends_at ∙ ap (take (length (decimal n))) e ∙ take_at (decimal n) (10 ∷ more) (length (decimal n)) refl)
        ∙ (decimal_is_IsNumeral n most).1

  module _ (some : m ≡ 0 → ⊥) (first : get_or xs 0 0 ≡ 48 → ⊥) (fits : value < 2 ^ 64) where
    digits_are : decimal value ≡ take m xs
    digits_are =
        let size : length (take m xs) ≡ m = length-take-le m xs within in
        let all : AreDigits (take m xs) = λ i inside. let small : i < m = omega (arith, inside, size) in subst (IsInRange 48 57)
        (sym (get_or-take m xs i 0 small)) (each i small) in
        let head : get_or (take m xs) 0 0 ≡ get_or xs 0 0 = get_or-take m xs 0 0 (omega (arith, some)) in
        ap decimal is
        ∙ decimal-digits_value (numerals_by_value AreDigits tells_by_index) (take m xs) all (omega (arith, size, some))
        (λ z. absurd (first (sym head ∙ z))) (subst (λ v. v < 2 ^ 64) is fits)

    pub number_some : 1 ≤ value
    number_some = go value refl
      where
        go : (v : ℕ) → value ≡ v → 1 ≤ value
        go zero e =
            let zero_is : take m xs ≡ 48 ∷ [] = sym digits_are ∙ ap decimal e ∙ decimal_digit 0 (omega arith) in
            absurd (first (sym (get_or-take m xs 0 0 (omega (arith, some))) ∙ ap (λ (l : List ℕ). get_or l 0 0) zero_is))
        go (suc v) e = omega (arith, e)

    pub number_is : m < length xs → get_or xs m 0 ≡ 10 → take (m + 1) xs ≡ decimal value ++ 10 ∷ []
    number_is inside feed = take_more xs m 0 inside ∙ (λ i. sym digits_are i ++ feed i ∷ [])

-- ---- a line

pub not_tab : IsLetter 9 → ⊥
not_tab (zero, small, e) = absurd (omega (arith, e))
not_tab (suc zero, small, e) = absurd (omega (arith, e))
not_tab (suc (suc zero), small, e) = absurd (omega (arith, e))
not_tab (suc (suc (suc zero)), small, e) = absurd (omega (arith, e))
not_tab (suc (suc (suc (suc c))), small, e) = absurd (omega (arith, small))

pub letters_are : (w : List ℕ) → AreCodes w → (i : ℕ) → i < length (map letter w) → IsLetter (get_or (map letter w) i 0)
letters_are [] codes i inside = absurd (omega (arith, inside))
letters_are (c ∷ w) codes zero inside = (c, codes.0, refl)
letters_are (c ∷ w) codes (suc i) inside = letters_are w codes.1 i (omega (arith, inside))

pub line_splits : (w d more : List ℕ) → ((w ++ (9 ∷ d)) ++ 10 ∷ []) ++ more ≡ w ++ 9 ∷ (d ++ 10 ∷ more)
line_splits w d more = append_assoc (w ++ (9 ∷ d)) (10 ∷ []) more ∙ append_assoc w (9 ∷ d) (10 ∷ more)

module _ (xs : List ℕ) (k : ℕ) (each : (i : ℕ) → i < k → IsLetter (get_or xs i 0)) (ends : k < 64 → k < length xs → IsLetter (get_or xs k 0) → ⊥)
    (n : ℕ) (p : List ℕ × ℕ) (more : List ℕ) (size : IsLength n) (pair : IsPair n p) (e : xs ≡ line_of p ++ more) where
  split : xs ≡ map letter p.0 ++ 9 ∷ (decimal p.1 ++ 10 ∷ more)
  split = e ∙ line_splits (map letter p.0) (decimal p.1) more

  size_is : length (map letter p.0) ≡ n
  size_is = length-map p.0 letter ∙ pair.word.0

  letters_end : k ≡ length (map letter p.0)
  letters_end = run_is IsLetter xs (map letter p.0) (decimal p.1 ++ 10 ∷ more) 9 k 64 split (letters_are p.0 pair.word.1) not_tab
      (omega (arith, size_is, size.1)) each ends

  pub some_letters : k ≡ 0 → ⊥
  some_letters z = omega (arith, z, letters_end, size_is, size.0)

  pub more_than_letters : k ≡ length xs → ⊥
  more_than_letters z = omega (arith, z, letters_end, long IsLetter xs (map letter p.0) (decimal p.1 ++ 10 ∷ more) 9 k 64 split)

  pub tab : get_or xs k 0 ≡ 9
  tab = ap (λ i. get_or xs i 0) letters_end ∙ at_end IsLetter xs (map letter p.0) (decimal p.1 ++ 10 ∷ more) 9 k 64 split

  pub number_behind : take (length xs - (k + 1)) (drop (k + 1) xs) ≡ decimal p.1 ++ 10 ∷ more
  number_behind =
      take_rest xs (k + 1) ∙ ap (λ (l : List ℕ). drop (k + 1) l) split ∙ ap (λ m. drop (m + 1) (map letter p.0 ++ 9 ∷ (decimal p.1 ++ 10 ∷ more))) letters_end
      ∙ ap (drop (length (map letter p.0) + 1)) (sym (append_assoc (map letter p.0) (9 ∷ []) (decimal p.1 ++ 10 ∷ more)))
      ∙ drop_at (map letter p.0 ++ 9 ∷ []) (decimal p.1 ++ 10 ∷ more) (length (map letter p.0) + 1) (length-append (map letter p.0) (9 ∷ []))

pub line_is : (xs : List ℕ) (k packed count end : ℕ) → k < length xs → take k xs ≡ map letter (unpack k packed) → get_or xs k 0 ≡ 9
    → take end (take (length xs - (k + 1)) (drop (k + 1) xs)) ≡ decimal count ++ 10 ∷ [] → take (k + 1 + end) xs ≡ line_of (unpack k packed, count)
line_is xs k packed count end inside letters tab number =
    take-add (k + 1) end xs
    ∙ (λ i. (take_more xs k 0 inside ∙ (λ j. letters j ++ tab j ∷ [])) i ++ (ap (take end) (sym (take_rest xs (k + 1))) ∙ number) i)
    ∙ append_assoc (map letter (unpack k packed)) (9 ∷ []) (decimal count ++ 10 ∷ [])
    ∙ sym (append_assoc (map letter (unpack k packed)) (9 ∷ decimal count) (10 ∷ []))
