-- The parse of a text of digits is the number that they write.
use Rattle.std.proofs.Common.{◌≡◌, ◌∙◌, ◌^◌, ◌<◌, ◌≤◌, ℕ, true, List, [], ◌∷◌, length, Option, Some, Result, Ok, Err, MatchOption, inl, inr, refl, sym, ap, arith, ◌&&◌}
use Rattle.std.specs.List.{list_all}
use Rattle.std.specs.Char.{is_ascii_digit}
use Rattle.std.specs.Prelude.{nat_lt}
use Rattle.std.specs.Result.{OkIff, result_ok}
use Rattle.std.specs.Str.{all_ascii_digits}
use Rattle.std.specs.Str.Parse.{digits_value}
use Rattle.std.proofs.lemmas.Str.Parse.{IsNumeralModel, numerals_by_value, tells_all_ascii_digits, parse_digits}
use Rattle.std.proofs.lemmas.Bool.{cases_lt}
use Rattle.std.proofs.lemmas.Bool.Decides.{Decides-ltb}
use Rattle.kmc_options.specs.Words.{number_of}
use Rattle.kmc_options.proofs.digits.number.Goals as goal

own : IsNumeralModel (λ ds. all_ascii_digits ds ≡ true) (digits_value 10)
own = numerals_by_value _ tells_all_ascii_digits

each_digit : (ds : List ℕ) → list_all is_ascii_digit ds ≡ all_ascii_digits ds
each_digit [] = refl
each_digit (d ∷ ds) = ap (λ b. is_ascii_digit d && b) (each_digit ds)

-- what the result of the parse is, where the text has digits alone
abbrev Reads : List ℕ → Option ℕ → Type 0
Reads t r = MatchOption r ((n : ℕ) → number_of t ≡ Some n → 2 ^ 64 ≤ n) (λ n. number_of t ≡ Some n)

found_number : (t : List ℕ) → list_all is_ascii_digit t ≡ true → 0 < length t → number_of t ≡ Some (digits_value 10 t)
found_number t digits h =
    let some : nat_lt 0 (length t) ≡ true = (Decides-ltb 0 (length t)).1 h in
    rw (some, digits) refl

reads : {E : Type 0} (t : List ℕ) (r : Result ℕ E) → list_all is_ascii_digit t ≡ true → OkIff r ((0 < length t) × (digits_value 10 t < 2 ^ 64))
    (digits_value 10 t) → Reads t (result_ok r)
reads t (Ok n) digits h = found_number t digits h.0.0 ∙ ap Some (sym h.1)
reads [] (Err e) digits h = λ n is. absurd (cc)
reads (x ∷ xs) (Err e) digits h = λ n is.
    let same : Some (digits_value 10 (x ∷ xs)) ≡ Some n = sym (found_number (x ∷ xs) digits (omega arith)) ∙ is in
    let value : digits_value 10 (x ∷ xs) ≡ n = cc in
    let positive : 0 < length (x ∷ xs) = omega arith in
    elim (cases_lt n (2 ^ 64)) [
      | inl lt ↦ absurd (h (positive, rw value lt))
      | inr le ↦ le
    ]

pub returns-then-are_digits : goal.returns-then-are_digits
returns-then-are_digits c =
    let text = c.args.text.now in
    let digits : list_all is_ascii_digit text ≡ true = cc in
    let parsed = parse_digits own 64 text c.parse.result c.parse.ensures.value.0 (sym (each_digit text) ∙ digits) in
    let same : c.ok.result ≡ result_ok c.parse.result = c.ok.ensures.value in
    rw same (reads text c.parse.result digits parsed)
