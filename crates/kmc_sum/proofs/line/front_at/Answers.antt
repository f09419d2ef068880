use Rattle.std.proofs.Common.{ℕ, ◌<◌, ◌%◌, get_or, drop, refl, ap, sym, subst, ◌∙◌, arith}
use Rattle.kmc_sum.proofs.QuadFronts.{front_one, front_two, front_three}
use Rattle.kmc_sum.specs.Line.{AreLetters}
use Rattle.kmc_sum.specs.declared.line.TheConstants.{QUADS}
use Rattle.kmc_sum.proofs.line.front_at.Goals as goal

pub returns-then-letters-text-clause-letters : goal.returns-then-letters-text-clause-letters
returns-then-letters-text-clause-letters c =
    let xs = c.args.bytes.now in
    let byte : (i : ℕ) → get_or xs i 0 < 256 = λ i. omega (arith, c.type_inv.bytes i) in
    subst (λ p. AreLetters 3 p (drop c.args.at xs)) (sym c.from.ensures)
    (front_three QUADS xs c.args.at c.gathered-quad.result refl c.gathered-quad.ensures c.requires byte
    (c.if-letters-text.true ∙ ap (λ n. n % 16777216) c.text_at-text.ensures))

pub returns-then-letters-text-2-clause-letters : goal.returns-then-letters-text-2-clause-letters
returns-then-letters-text-2-clause-letters c =
    let xs = c.args.bytes.now in
    let byte : (i : ℕ) → get_or xs i 0 < 256 = λ i. omega (arith, c.type_inv.bytes i) in
    subst (λ p. AreLetters 2 p (drop c.args.at xs)) (sym c.from-then-letters-text-2.ensures)
    (front_two QUADS xs c.args.at c.gathered-quad.result refl c.gathered-quad.ensures c.requires byte
    (c.if-letters-text-2.true ∙ ap (λ n. n % 65536) c.text_at-text.ensures))

pub returns-then-letters-text-3-clause-letters : goal.returns-then-letters-text-3-clause-letters
returns-then-letters-text-3-clause-letters c =
    let xs = c.args.bytes.now in
    let byte : (i : ℕ) → get_or xs i 0 < 256 = λ i. omega (arith, c.type_inv.bytes i) in
    subst (λ p. AreLetters 1 p (drop c.args.at xs)) (sym c.from-then-letters-text-3.ensures)
    (front_one QUADS xs c.args.at c.gathered-quad.result refl c.gathered-quad.ensures c.requires byte
    (c.if-letters-text-3.true ∙ ap (λ n. n % 256) c.text_at-text.ensures))
