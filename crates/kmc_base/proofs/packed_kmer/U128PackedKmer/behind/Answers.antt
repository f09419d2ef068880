use Rattle.std.proofs.Common.{arith}
use Rattle.kmc_base.specs.Lemmas.Powers.{behind_fits}
use Rattle.kmc_base.proofs.packed_kmer.U128PackedKmer.behind.Goals as goal

pub overflow_mul-result : goal.overflow_mul-result
overflow_mul-result c = omega (arith, behind_fits 64 c.args.self c.args.top c.requires.top c.args.code c.from.result c.requires.back c.from.ensures)

pub overflow_add-result : goal.overflow_add-result
overflow_add-result c = omega (arith, behind_fits 64 c.args.self c.args.top c.requires.top c.args.code c.from.result c.requires.back c.from.ensures)
