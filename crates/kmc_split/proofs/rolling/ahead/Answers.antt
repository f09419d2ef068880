use Rattle.std.proofs.Common.{arith}
use Rattle.kmc_base.specs.Lemmas.Powers.{masked, low_fits, pow_some}
use Rattle.kmc_split.specs.Lemmas.Lowest.{fits_most}
use Rattle.kmc_split.proofs.rolling.ahead.Goals as goal

pub overflow_sub-result : goal.overflow_sub-result
overflow_sub-result c = omega (arith, pow_some c.requires.top.0, c.requires.top.2)

pub overflow_mul-result : goal.overflow_mul-result
overflow_mul-result c =
    omega (
      arith,
      masked c.args.word c.args.top c.requires.top.0 c.requires.top.2,
      low_fits c.args.word c.args.top c.requires.top.0 c.requires.top.2,
      fits_most c.requires.top.0 (omega arith),
    )

pub overflow_add-result : goal.overflow_add-result
overflow_add-result c =
    omega (
      arith,
      masked c.args.word c.args.top c.requires.top.0 c.requires.top.2,
      low_fits c.args.word c.args.top c.requires.top.0 c.requires.top.2,
      fits_most c.requires.top.0 (omega arith),
    )

pub returns : goal.returns
returns c = omega (arith, masked c.args.word c.args.top c.requires.top.0 c.requires.top.2)
