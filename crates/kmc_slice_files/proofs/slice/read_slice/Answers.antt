use Rattle.kmc_device.specs.Lemmas.Devices.{on_err}
use Rattle.kmc_slice_files.proofs.Wholes.{held_header}
use Rattle.kmc_slice_files.proofs.slice.read_slice.Goals as goal

pub returns-in_err-read_frames-clause-held : goal.returns-in_err-read_frames-clause-held
returns-in_err-read_frames-clause-held g c =
    on_err c.from_residual-in_err-read_frames.result _ (held_header _ _ _ _ _ _ _ c.in_ok-told.ensures.ok.1 c.in_err-read_frames.ensures.held)
