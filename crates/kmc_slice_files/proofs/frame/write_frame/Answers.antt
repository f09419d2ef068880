use Rattle.std.proofs.Common.{length, ap, ◌∙◌}
use Rattle.kmc_device.specs.Lemmas.Devices.{on_err}
use Rattle.kmc_slice_files.specs.Frames.{head_bytes}
use Rattle.kmc_slice_files.proofs.Framing.{head_front}
use Rattle.kmc_slice_files.proofs.frame.write_frame.Goals as goal

pub returns-in_err-write_text-clause-front : goal.returns-in_err-write_text-clause-front
returns-in_err-write_text-clause-front g c =
    on_err c.from_residual.result _ (head_front _ _ c.head-head.result _ c.args.body.now
    (c.head-head.ensures ∙ ap (λ x. head_bytes c.args.bin (length c.args.body.now) x) c.frame_check.ensures) c.in_err-write_text.ensures.front)
