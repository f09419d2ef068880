use Rattle.std.proofs.Common.{◌/◌, length, ap, arith}
use Rattle.std.proofs.lemmas.Fmt.{decimal_digit, decimal_nonempty}
use Rattle.kmc_database.proofs.HeldLines.{digits_few, one_digit_more}
use Rattle.kmc_database.proofs.digits.digits_of.Goals as goal

pub loop-rest-preserved : goal.loop-rest-preserved
loop-rest-preserved c =
    let rest = c.loop-rest.rest in
    let fits = c.loop-rest.auto.rest-fits in
    let more = one_digit_more rest (omega (arith, c.loop-rest-test.true)) (omega (arith, fits)) in
    let some = decimal_nonempty (rest / 10) (omega (arith, fits)) in
    let few = digits_few c.args.count (omega (arith, c.ranges.count.fits)) in
    record {
      all = omega (arith, more, c.loop-rest.invariant.all);
      most = omega (arith, more, some, few, c.loop-rest.invariant.all);
    }

pub returns-clause-is : goal.returns-clause-is
returns-clause-is c =
    let one = ap length (decimal_digit c.loop-rest.rest (omega (arith, c.loop-rest-test.false))) in
    omega (arith, one, c.loop-rest.invariant.all)
