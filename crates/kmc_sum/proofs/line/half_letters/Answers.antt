use Rattle.std.proofs.Common.{◌≡◌, sym, ap, ◌∙◌, arith}
use Rattle.kmc_base.specs.Words.{letter}
use Rattle.kmc_sum.proofs.Letters.{half_room, letter_more}
use Rattle.kmc_sum.proofs.line.half_letters.Goals as goal

pub overflow_mul-packed : goal.overflow_mul-packed
overflow_mul-packed c =
    omega (arith, half_room c.loop-i.i 1 c.loop-i.packed 0 (omega (arith, c.min-most.ensures)) c.loop-i.invariant.fits (omega arith))

pub overflow_add-packed : goal.overflow_add-packed
overflow_add-packed c = omega (
  arith,
  half_room c.loop-i.i 1 c.loop-i.packed c.from.result (omega (arith, c.min-most.ensures)) c.loop-i.invariant.fits
      (omega (arith, c.from.ensures, c.in-Some.ensures.0)),
)

pub loop-i-preserved : goal.loop-i-preserved
loop-i-preserved c =
    let from : c.from.result ≡ c.in-Some.code = c.from.ensures in
    letter_more c.args.bytes.now c.loop-i.i c.loop-i.packed c.from.result c.loop-i.invariant (omega (arith, c.min-most.ensures))
    (omega (arith, c.in-Some.ensures.0, from)) (sym c.in-Some.ensures.1 ∙ ap letter (sym from))
