use Rattle.std.proofs.Common.{arith}
use Rattle.kmc_base.specs.Lemmas.Weights.{weighted_fits, weighted_is}
use Rattle.kmc_base.proofs.packed_kmer.U64PackedKmer.weighted.Goals as goal

pub overflow_add-result : goal.overflow_add-result
overflow_add-result c = omega
    (arith, weighted_fits 64 c.args.weight.bits c.args.self c.args.weight.times c.requires c.args.weight.within.0 c.args.weight.within.1)

pub returns : goal.returns
returns c = weighted_is 64 c.args.weight.bits c.args.self c.args.weight.times c.requires c.args.weight.within.0 c.args.weight.within.1
