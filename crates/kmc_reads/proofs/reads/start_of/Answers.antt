use Rattle.std.proofs.Common.{◌<◌, sym, arith}
use Rattle.kmc_reads.proofs.Rows.{before_is}
use Rattle.kmc_reads.proofs.reads.start_of.Goals as goal

pub returns : goal.returns
returns c = let some : 0 < c.args.i = omega (arith, c.if-i-eq0.false) in sym (before_is c.args.ends.now c.args.i some)
