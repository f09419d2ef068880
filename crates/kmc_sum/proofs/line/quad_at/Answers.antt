use Rattle.std.proofs.Common.{ℕ, ◌+◌, ◌<◌, get_or, refl, ◌∙◌, arith}
use Rattle.kmc_sum.proofs.Quads.{quad_is}
use Rattle.kmc_sum.specs.declared.line.TheConstants.{QUADS}
use Rattle.kmc_sum.proofs.line.quad_at.Goals as goal

pub returns-then-quad-text : goal.returns-then-quad-text
returns-then-quad-text c =
    let xs = c.args.bytes.now in
    let at = c.args.at in
    let byte : (i : ℕ) → get_or xs i 0 < 256 = λ i. omega (arith, c.type_inv.bytes i) in
    let are = quad_is QUADS c.gathered-quad.result _ _ _ _ refl c.gathered-quad.ensures (byte at) (byte (at + 1)) (byte (at + 2)) (byte (at + 3))
    (c.if-quad-text.true ∙ c.text_at-text.ensures) in
    (c.gathered-quad.ensures, are.0, are.1, are.2, are.3)
