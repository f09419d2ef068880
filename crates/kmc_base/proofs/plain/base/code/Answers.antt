use Rattle.std.proofs.Common.{◌<◌, refl, length, arith}
use Rattle.kmc_base.specs.declared.plain.base.TheConstants.{CODES}
use Rattle.kmc_base.proofs.CodeTable.{found}
use Rattle.kmc_base.proofs.plain.base.code.Goals as goal

pub returns-then-c-lt4-clause-is : goal.returns-then-c-lt4-clause-is
returns-then-c-lt4-clause-is c =
    let inside : c.args.b < length CODES = omega (arith, c.ranges.b.fits) in
    found CODES c.args.b refl inside c.if-c-lt4.true
