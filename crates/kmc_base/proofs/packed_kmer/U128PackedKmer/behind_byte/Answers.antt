use Rattle.std.proofs.Common.{◌∙◌, arith}
use Rattle.kmc_base.specs.Lemmas.Powers.{behind_byte_fits, behind_byte_is}
use Rattle.kmc_base.proofs.packed_kmer.U128PackedKmer.behind_byte.Goals as goal

pub overflow_mul-result : goal.overflow_mul-result
overflow_mul-result c = omega (
  arith,
  behind_byte_fits 64 c.args.self c.args.top c.requires.top c.args.byte c.from.result c.requires.back
      (c.from.ensures ∙ c.turned.ensures),
)

pub returns : goal.returns
returns c = behind_byte_is 64 c.args.self c.args.top c.requires.top c.args.byte c.from.result c.requires.back (c.from.ensures ∙ c.turned.ensures)
