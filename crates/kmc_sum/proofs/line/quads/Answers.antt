use Rattle.std.proofs.Common.{◌≡◌, ◌+◌, ◌*◌, ◌≤◌, sym, subst, arith}
use Rattle.kmc_sum.specs.Line.{AreLetters}
use Rattle.kmc_sum.proofs.Letters.{half_room, letters_both, quad_more, shifted}
use Rattle.kmc_sum.proofs.line.quads.Goals as goal

pub overflow_mul-packed : goal.overflow_mul-packed
overflow_mul-packed c =
    omega (arith, half_room (4 * c.loop-j.j) 4 c.loop-j.packed 0 (omega (arith, c.min-most.ensures)) c.loop-j.invariant.fits (omega arith))

pub overflow_add-packed : goal.overflow_add-packed
overflow_add-packed c = omega (
  arith,
  half_room (4 * c.loop-j.j) 4 c.loop-j.packed c.from.result (omega (arith, c.min-most.ensures)) c.loop-j.invariant.fits
      (omega (arith, c.from.ensures, c.in-Some.ensures.0)),
)

pub overflow_add-result-in-None : goal.overflow_add-result-in-None
overflow_add-result-in-None c =
    let n = 4 * c.loop-j.j in
    let more = c.front_at-more.result.0 in
    let most : n + more ≤ 32 = omega (arith, c.min-most.ensures, c.front_at-more.ensures.most) in
    let is = shifted n more c.loop-j.packed most c.loop-j.invariant.fits in
    omega (arith, is, half_room n more c.loop-j.packed c.front_at-more.result.1 most c.loop-j.invariant.fits c.front_at-more.ensures.letters.fits)

pub returns-in-None-clause-letters : goal.returns-in-None-clause-letters
returns-in-None-clause-letters c =
    let xs = c.args.bytes.now in
    let n = 4 * c.loop-j.j in
    let more = c.front_at-more.result.0 in
    let most : n + more ≤ 32 = omega (arith, c.min-most.ensures, c.front_at-more.ensures.most) in
    subst (λ m. AreLetters (n + more) (m + c.front_at-more.result.1) xs) (sym (shifted n more c.loop-j.packed most c.loop-j.invariant.fits))
    (letters_both xs n more c.loop-j.packed c.front_at-more.result.1 c.loop-j.invariant c.front_at-more.ensures.letters)

pub loop-j-preserved : goal.loop-j-preserved
loop-j-preserved c =
    let xs = c.args.bytes.now in
    let n = 4 * c.loop-j.j in
    let here = c.in-Some.ensures in
    let place : n + 4 ≡ 4 * (c.loop-j.j + 1) = omega arith in
    subst (λ m. AreLetters m (c.loop-j.packed * 256 + c.from.result) xs) place
    (subst (λ q. AreLetters (n + 4) (c.loop-j.packed * 256 + q) xs) (sym c.from.ensures)
    (quad_more xs n c.loop-j.packed c.in-Some.quad c.loop-j.invariant (omega (arith, c.min-most.ensures)) here.0 here.1 here.2 here.3 here.4))
