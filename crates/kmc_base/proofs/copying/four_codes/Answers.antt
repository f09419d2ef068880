use Rattle.std.proofs.Common.{◌+◌, ◌-◌, ◌*◌, ◌/◌, ◌%◌, ◌^◌, [], ◌∷◌, sym, ◌∙◌, arith}
use Rattle.kmc_base.proofs.Copied.{pair_is}
use Rattle.kmc_base.proofs.copying.four_codes.Goals as goal

pub returns : goal.returns
returns c =
    let s = c.args.skipped in
    pair_is c.args.left c.args.right s (omega arith) (omega arith) c.requires
    ∙ sym (λ i. ((c.from.ensures i * 256 + c.from-2.ensures i) / 2 ^ (8 - 2 * s) % 256) ∷ [])
