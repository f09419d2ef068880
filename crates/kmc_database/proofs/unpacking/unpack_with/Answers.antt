use Rattle.std.proofs.Common.{inl, inr, refl, ap, ◌∙◌}
use Rattle.kmc_database.specs.UnpackAnswer.{starts_of}
use Rattle.kmc_database.specs.UnpackCauses.{UnpackFailures}
use Rattle.kmc_database.proofs.StepExits.{refused_since, step_refused, step_since}
use Rattle.kmc_database.proofs.UnpackSoFar.{markers_taken}
use Rattle.kmc_database.proofs.unpacking.unpack_with.Goals as goal

pub returns-in_err-take_markers : goal.returns-in_err-take_markers
returns-in_err-take_markers g c =
    let h = c.args.header.now in
    let s = starts_of g.R.Read.remaining g.W.Write.contents c.args.prefix.now c.args.suffix.now c.args.writer.now in
    step_refused g.R.Read.remaining g.W.Write.contents h s c.args.prefix.now c.take_markers.new.prefix c.args.suffix.now c.take_markers.new.suffix
    c.args.writer.now c.args.writer.now c.from_residual.result _ _ c.in_err-take_markers.field-0.0 c.from_residual.ensures.1
    (λ first. c.in_err-take_markers.ensures.cause h s.written first c.args.writer.now.failures)
    (inl refl)

pub returns-in_err-unpack_parts : goal.returns-in_err-unpack_parts
returns-in_err-unpack_parts g c =
    let h = c.args.header.now in
    let s = starts_of g.R.Read.remaining g.W.Write.contents c.args.prefix.now c.args.suffix.now c.args.writer.now in
    let begun = c.in_ok-take_markers.ensures in
    let so = markers_taken h.layout s _ _ _ _ c.new-buffer.result c.new-buffer.ensures begun.prefix.0 begun.suffix.0 in
    let step = c.in_err-unpack_parts.ensures.answer s so in
    let e = c.in_err-unpack_parts.field-0.0 in
    step_refused g.R.Read.remaining g.W.Write.contents h s c.args.prefix.now c.unpack_parts.new.prefix c.args.suffix.now c.unpack_parts.new.suffix
    c.args.writer.now c.unpack_parts.new.writer c.from_residual-in_err-unpack_parts.result _ _ e c.from_residual-in_err-unpack_parts.ensures.1
    (λ first.
    refused_since h s (g.R.Read.remaining c.unpack_parts.new.prefix.inner) (g.R.Read.remaining c.unpack_parts.new.suffix.inner) first
    c.take_markers.new.prefix.failures c.take_markers.new.suffix.failures c.args.writer.now.failures c.args.prefix.now.failures
    c.args.suffix.now.failures c.args.writer.now.failures c.unpack_parts.new.prefix.failures c.unpack_parts.new.suffix.failures
    c.unpack_parts.new.writer.failures e begun.prefix.1 begun.suffix.1 refl (step.cause first))
    (inr step.left)

pub returns : goal.returns
returns g c =
    let h = c.args.header.now in
    let s = starts_of g.R.Read.remaining g.W.Write.contents c.args.prefix.now c.args.suffix.now c.args.writer.now in
    let begun = c.in_ok-take_markers.ensures in
    let so = markers_taken h.layout s _ _ _ _ c.new-buffer.result c.new-buffer.ensures begun.prefix.0 begun.suffix.0 in
    let parts = c.in_ok-unpack_parts.ensures.answer s so in
    let kept = parts.sound 0 in
    step_since g.R.Read.remaining g.W.Write.contents h s c.args.prefix.now c.unpack_parts.new.prefix c.end_unpacking.new.prefix c.args.suffix.now
    c.unpack_parts.new.suffix c.end_unpacking.new.suffix c.args.writer.now c.unpack_parts.new.writer c.end_unpacking.new.writer c.end_unpacking.result
    _ _ _ (ap (λ (f : UnpackFailures). f.prefix) kept ∙ begun.prefix.1) (ap (λ (f : UnpackFailures). f.suffix) kept ∙ begun.suffix.1)
    (ap (λ (f : UnpackFailures). f.writer) kept) (λ left. inr left) (c.end_unpacking.ensures s parts.ok)
