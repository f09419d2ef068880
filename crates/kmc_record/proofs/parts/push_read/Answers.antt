use Rattle.std.proofs.Common.{ap, length, drop, length-drop, ◌-◌, ◌∙◌, arith, subst, List, ℕ, ◌∷◌, []}
use Rattle.std.proofs.lemmas.List.{take_all}
use Rattle.std.proofs.lemmas.Grind.{common_steps}
use Rattle.kmc_base.specs.Stretches.{leading}
use Rattle.kmc_base.specs.Lemmas.Stretching.{long_enough}
use Rattle.kmc_record.specs.GrowingParts.{HaveTaken}
use Rattle.kmc_record.proofs.Chunks.{stretch_more}
use Rattle.kmc_record.proofs.parts.push_read.Goals as goal

pub loop-place-preserved : goal.loop-place-preserved
loop-place-preserved c =
    let place = c.loop-place.place in
    let read = c.args.read.now in
    let taken = subst (λ (w : List ℕ). HaveTaken c.args.shape (long_enough c.args.shape.k
    (record { start = place; codes = w } ∷ [])) c.loop-place.parts.items c.push_stretch.new.parts.items)
    c.as_slice.ensures.value (c.in_ok-push_stretch.ensures.taken place) in
    stretch_more c.args.shape c.args.read.now c.leading_codes.new.codes.items place c.len.result _ _ _ _ c.push_stretch.ensures.some
    (c.in_ok-leading_codes.ensures.are ∙ ap leading (take_all (length read - place) (drop place read) (omega (arith, length-drop place read))))
    (omega (arith, c.len.ensures, c.leading_codes.new.codes.ok.0))
    c.loop-place.invariant taken

pub returns : goal.returns
returns c = grind (arith, common_steps)
