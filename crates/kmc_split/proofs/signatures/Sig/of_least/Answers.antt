use Rattle.std.proofs.Common.{arith}
use Rattle.kmc_base.specs.Lemmas.Powers.{pow_some}
use Rattle.kmc_split.specs.Lemmas.Lowest.{fits_most}
use Rattle.kmc_split.proofs.signatures.Sig.of_least.Goals as goal

pub overflow_add-none : goal.overflow_add-none
overflow_add-none c = omega (arith, c.none_of-none.ensures, pow_some c.args.m, fits_most c.args.m c.requires.most)

pub of_value-requires : goal.of_value-requires
of_value-requires c = omega (arith, c.none_of-none.ensures, pow_some c.args.m, fits_most c.args.m c.requires.most)

pub of_value-requires-else-least-none : goal.of_value-requires-else-least-none
of_value-requires-else-least-none c = omega (arith, c.requires.fits, fits_most c.args.m c.requires.most)
