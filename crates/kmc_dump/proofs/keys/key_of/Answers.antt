use Rattle.std.proofs.Common.{◌+◌, ap, ◌∙◌}
use Rattle.kmc_dump.specs.Keys.{key_pair}
use Rattle.kmc_dump.proofs.RangeKeys.{far_whole, key_holds}
use Rattle.kmc_dump.proofs.keys.key_of.Goals as goal

pub returns : goal.returns
returns c =
    ap (λ t. key_pair c.args.least c.args.bits (t + c.args.count)) (far_whole c.args.word c.args.least c.args.bits c.requires.room)
    ∙ key_holds c.args.word c.args.count c.args.least c.args.bits c.requires.least c.requires.count
