use Rattle.kmc_slice_files.proofs.Parsing.{no_front}
use Rattle.kmc_slice_files.proofs.laws.fronts_are_no_files.Goals as goal

pub returns : goal.returns
returns c = no_front
