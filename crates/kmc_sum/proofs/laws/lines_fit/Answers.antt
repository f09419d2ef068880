use Rattle.std.proofs.Common.{◌≡◌, ◌+◌, ◌≤◌, ◌∷◌, ◌++◌, [], length, map, decimal, arith, length-append}
use Rattle.std.proofs.lemmas.Fmt.{length-decimal-le}
use Rattle.std.proofs.lemmas.List.{length-map}
use Rattle.kmc_base.specs.Words.{letter}
use Rattle.kmc_lists.specs.Line.{line_of}
use Rattle.kmc_sum.proofs.laws.lines_fit.Goals as goal

pub returns : goal.returns
returns c = λ k p long is.
    let digits : length (decimal p.1) ≤ 20 = length-decimal-le 20 p.1 (omega arith) (omega (arith, is.most)) is.most in
    let front = map letter p.0 ++ (9 ∷ decimal p.1) in
    let whole : length (line_of p) ≡ length front + 1 = length-append front (10 ∷ []) in
    let word : length front ≡ length (map letter p.0) + length (9 ∷ decimal p.1) = length-append (map letter p.0) (9 ∷ decimal p.1) in
    let letters : length (map letter p.0) ≤ 64 = omega (arith, long.1, is.word.0, length-map p.0 letter) in
    omega (arith, digits, letters, whole, word)
