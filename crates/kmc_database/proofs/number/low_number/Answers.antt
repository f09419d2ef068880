use Rattle.std.proofs.Common.{◌-◌, ◌<◌, length, arith}
use Rattle.kmc_database.specs.Lemmas.Bytes.{few_held}
use Rattle.kmc_database.proofs.number.low_number.Goals as goal

pub overflow_mul-number : goal.overflow_mul-number
overflow_mul-number c =
    let i = c.loop-i.i in
    let few : i < 8 = omega (arith, c.requires, c.loop-i-test.true) in
    omega (arith, few_held i few, c.loop-i.invariant.fits)

pub overflow_add-number : goal.overflow_add-number
overflow_add-number c =
    let i = c.loop-i.i in
    let few : i < 8 = omega (arith, c.requires, c.loop-i-test.true) in
    omega (arith, few_held i few, c.loop-i.invariant.fits, c.from.ensures, c.type_inv.bytes (length c.args.bytes.now - 1 - i))
