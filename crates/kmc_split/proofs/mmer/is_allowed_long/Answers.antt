use Rattle.std.proofs.Common.{arith}
use Rattle.kmc_split.proofs.Pairs.{allowed_long}
use Rattle.kmc_split.proofs.mmer.is_allowed_long.Goals as goal

pub returns : goal.returns
returns c = rw (c.from.ensures, c.from-2.ensures) (allowed_long c.args.m c.args.packed c.args.marks (omega arith) c.requires.fits c.requires.marks)
