use Rattle.std.proofs.Common.{◌+◌, ap, arith}
use Rattle.kmc_base.specs.Lemmas.Weights.{low_bits}
use Rattle.kmc_base.proofs.packed_kmer.U64PackedKmer.times.Goals as goal

pub returns : goal.returns
returns c = ap (λ t. t + 1) (low_bits 64 c.args.bits c.args.self (omega arith))
