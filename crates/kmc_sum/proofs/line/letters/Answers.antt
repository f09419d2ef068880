use Rattle.std.proofs.Common.{arith}
use Rattle.kmc_sum.proofs.Letters.{halves_are, no_more}
use Rattle.kmc_sum.proofs.line.letters.Goals as goal

pub returns-clause-fits : goal.returns-clause-fits
returns-clause-fits c =
    (halves_are c.args.bytes.now c.half_letters-first.result.0 c.half_letters-second.result.0 _ _ _ _ c.from-2.ensures c.from-3.ensures
    c.half_letters-first.ensures.most c.half_letters-second.ensures.most c.half_letters-first.ensures.letters c.half_letters-second.ensures.letters).fits

pub returns-clause-word : goal.returns-clause-word
returns-clause-word c =
    (halves_are c.args.bytes.now c.half_letters-first.result.0 c.half_letters-second.result.0 _ _ _ _ c.from-2.ensures c.from-3.ensures
    c.half_letters-first.ensures.most c.half_letters-second.ensures.most c.half_letters-first.ensures.letters c.half_letters-second.ensures.letters).word

pub returns-clause-each : goal.returns-clause-each
returns-clause-each c =
    (halves_are c.args.bytes.now c.half_letters-first.result.0 c.half_letters-second.result.0 _ _ _ _ c.from-2.ensures c.from-3.ensures
    c.half_letters-first.ensures.most c.half_letters-second.ensures.most c.half_letters-first.ensures.letters c.half_letters-second.ensures.letters).each

pub returns-clause-ends : goal.returns-clause-ends
returns-clause-ends c = no_more c.args.bytes.now c.half_letters-first.result.0 c.half_letters-second.result.0 c.half_letters-second.ensures.ends
    (omega (arith, c.if-first-lt-HALF.false))
