use Rattle.kmc_slice_files.proofs.Sound.{sound_taken}
use Rattle.kmc_slice_files.proofs.laws.sound_files_are_taken.Goals as goal

pub returns : goal.returns
returns c = sound_taken
