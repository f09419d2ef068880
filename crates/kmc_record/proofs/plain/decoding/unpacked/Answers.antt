use Rattle.std.proofs.Common.{◌++◌, ◌∷◌, [], arith, sym, ◌∙◌}
use Rattle.std.proofs.lemmas.List.{take_more}
use Rattle.kmc_base.specs.Record.{codes_in}
use Rattle.kmc_base.specs.Lemmas.Codes.{length_codes}
use Rattle.kmc_record.proofs.plain.decoding.unpacked.Goals as goal

pub loop-i-preserved : goal.loop-i-preserved
loop-i-preserved c =
    let is = c.code_at.ensures.is in
    c.in_ok-push.ensures.items ∙ (λ j. c.loop-i.invariant j ++ is j ∷ []) ∙ sym
    (take_more (codes_in c.args.bytes.now) c.loop-i.i 0 (omega (arith, length_codes c.args.bytes.now)))
