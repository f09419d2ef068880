-- Letters at the front of four bytes that are not all letters.
use Rattle.std.proofs.Common.{◌≡◌, ℕ, ◌+◌, ◌*◌, ◌/◌, ◌%◌, ◌<◌, ◌≤◌, List, length, drop, get_or, map, ap, ◌∙◌, arith, length-drop}
use Rattle.std.proofs.lemmas.List.{get_or-drop}
use Rattle.std.specs.List.{range_with_len}
use Rattle.kmc_sum.specs.Line.{AreLetters}
use Rattle.kmc_sum.proofs.Letters.{one_letter, two_letters, three_letters}
use Rattle.kmc_sum.proofs.Quads.{quad_number, one_is, two_are, three_are}

module _ (table xs : List ℕ) (at q : ℕ) (is : table ≡ map quad_number (range_with_len 0 256)) (small : q < 256) (inside : at + 4 ≤ length xs)
    (bytes : (i : ℕ) → get_or xs i 0 < 256) where
  abbrev number : ℕ
  number = (get_or xs at 0 + get_or xs (at + 1) 0 * 256) + (get_or xs (at + 2) 0 + get_or xs (at + 3) 0 * 256) * 65536

  long : 4 ≤ length (drop at xs)
  long = omega (arith, length-drop at xs)

  first : get_or (drop at xs) 0 0 ≡ get_or xs at 0
  first = let place : at + 0 ≡ at = omega arith in get_or-drop at xs 0 0 ∙ ap (λ i. get_or xs i 0) place

  pub front_one : get_or table q 0 % 256 ≡ number % 256 → AreLetters 1 (q / 64) (drop at xs)
  front_one found =
      let is_first = one_is table q _ _ _ _ is small (bytes at) (bytes (at + 1)) (bytes (at + 2)) (bytes (at + 3)) found in
      one_letter (drop at xs) q (omega (arith, long)) small (first ∙ is_first)

  pub front_two : get_or table q 0 % 65536 ≡ number % 65536 → AreLetters 2 (q / 16) (drop at xs)
  front_two found =
      let are = two_are table q _ _ _ _ is small (bytes at) (bytes (at + 1)) (bytes (at + 2)) (bytes (at + 3)) found in
      two_letters (drop at xs) q (omega (arith, long)) small (first ∙ are.0) (get_or-drop at xs 1 0 ∙ are.1)

  pub front_three : get_or table q 0 % 16777216 ≡ number % 16777216 → AreLetters 3 (q / 4) (drop at xs)
  front_three found =
      let are = three_are table q _ _ _ _ is small (bytes at) (bytes (at + 1)) (bytes (at + 2)) (bytes (at + 3)) found in
      three_letters (drop at xs) q (omega (arith, long)) small (first ∙ are.0) (get_or-drop at xs 1 0 ∙ are.1) (get_or-drop at xs 2 0 ∙ are.2)
