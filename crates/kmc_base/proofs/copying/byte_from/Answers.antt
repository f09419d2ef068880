use Rattle.std.proofs.Common.{ap, ◌∙◌, arith}
use Rattle.kmc_base.specs.Record.{packed_codes}
use Rattle.kmc_base.proofs.Copied.{codes_of_two}
use Rattle.kmc_base.proofs.copying.byte_from.Goals as goal

pub returns : goal.returns
returns c =
    ap packed_codes (codes_of_two c.args.packed.now c.args.i c.args.skipped 4 (omega arith) (omega arith) (omega arith)) ∙ c.four_codes.ensures
