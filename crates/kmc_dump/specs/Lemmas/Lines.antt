-- How long lines are.
use Rattle.std.proofs.Common.{◌≡◌, ℕ, ◌+◌, ◌≤◌, List, [], ◌∷◌, ◌++◌, length, map, arith, decimal}
use Rattle.std.proofs.lemmas.List.{length-append, length-map}
use Rattle.kmc_base.specs.Words.{letter}
use Rattle.kmc_lists.specs.Line.{line_of, line_room}

pub line_long : (p : List ℕ × ℕ) → length (line_of p) ≡ length p.0 + length (decimal p.1) + 2
line_long p =
    let letters = map letter p.0 in
    let digits = decimal p.1 in
    let whole : length (line_of p) ≡ length (letters ++ 9 ∷ digits) + 1 = length-append (letters ++ 9 ∷ digits) (10 ∷ []) in
    omega (arith, whole, length-append letters (9 ∷ digits), length-map p.0 letter)

-- a line of a word of k codes and a count of so many digits
pub line_most : (k digits : ℕ) (p : List ℕ × ℕ) → length p.0 ≡ k → length (decimal p.1) ≤ digits → length (line_of p) ≤ line_room k digits
line_most k digits p long short = omega (arith, line_long p, long, short)
