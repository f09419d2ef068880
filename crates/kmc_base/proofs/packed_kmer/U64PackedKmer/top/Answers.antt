use Rattle.std.proofs.Common.{◌*◌, ◌-◌, ◌∙◌, sym, arith}
use Rattle.std.proofs.lemmas.Nat.{one_shl}
use Rattle.kmc_base.specs.Lemmas.Powers.{pow_quad}
use Rattle.kmc_base.proofs.packed_kmer.U64PackedKmer.top.Goals as goal

pub returns : goal.returns
returns c = one_shl (2 * (c.args.k - 1)) 64 (omega arith) ∙ sym (pow_quad (c.args.k - 1))
