use Rattle.std.proofs.Common.{◌++◌, ◌∷◌, [], sym, ◌∙◌, arith}
use Rattle.std.proofs.lemmas.List.FromFn.{map-range_with_len_more}
use Rattle.kmc_record.specs.Parts.{empty_part}
use Rattle.kmc_record.proofs.parts.empty_parts.Goals as goal

pub loop-bin-preserved : goal.loop-bin-preserved
loop-bin-preserved c =
    let is = c.empty.ensures in
    let bin = c.loop-bin.bin in
    c.in_ok-push.ensures.items ∙ (λ i. c.loop-bin.invariant i ++ is i ∷ []) ∙ sym
    (map-range_with_len_more (empty_part c.args.number c.args.shape) 0 bin bin (omega arith))
