use Rattle.kmc_base.specs.Lemmas.Powers.{ones_of}
use Rattle.kmc_base.proofs.packed_kmer.U128PackedKmer.ones.Goals as goal

pub returns : goal.returns
returns c = ones_of 64 c.args.k c.requires.most
