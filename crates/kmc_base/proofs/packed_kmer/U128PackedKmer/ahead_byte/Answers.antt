use Rattle.std.proofs.Common.{arith}
use Rattle.kmc_base.specs.Lemmas.Powers.{top_byte_some, ahead_byte_is}
use Rattle.kmc_base.proofs.packed_kmer.U128PackedKmer.ahead_byte.Goals as goal

pub overflow_sub-result : goal.overflow_sub-result
overflow_sub-result c = top_byte_some 64 c.args.self c.args.top c.requires.top

pub returns : goal.returns
returns c = ahead_byte_is 64 c.args.self c.args.top c.requires.top c.args.byte c.from.result (omega (arith, c.ranges.byte.fits)) c.from.ensures
