use Rattle.kmc_device.specs.Lemmas.Devices.{on_err}
use Rattle.kmc_slice_files.proofs.Framing.{head_front}
use Rattle.kmc_slice_files.proofs.header.write_header.Goals as goal

pub returns-in_err-write_text-clause-front : goal.returns-in_err-write_text-clause-front
returns-in_err-write_text-clause-front g c =
    on_err c.from_residual.result _ (head_front _ _ c.front-front.result _ _ c.front-front.ensures c.in_err-write_text.ensures.front)
