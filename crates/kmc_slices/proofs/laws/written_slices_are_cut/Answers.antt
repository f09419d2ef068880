use Rattle.kmc_slices.proofs.Files.{written}
use Rattle.kmc_slices.proofs.laws.written_slices_are_cut.Goals as goal

pub returns : goal.returns
returns c = written
