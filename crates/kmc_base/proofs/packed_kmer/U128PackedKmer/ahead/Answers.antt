use Rattle.kmc_base.specs.Lemmas.Powers.{top_some, ahead_is}
use Rattle.kmc_base.proofs.packed_kmer.U128PackedKmer.ahead.Goals as goal

pub overflow_sub-result : goal.overflow_sub-result
overflow_sub-result c = top_some 64 c.args.self c.args.top c.requires.top

pub returns : goal.returns
returns c = ahead_is 64 c.args.self c.args.top c.requires.top c.args.code c.from.result c.requires.code c.from.ensures
