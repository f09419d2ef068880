use Rattle.kmc_base.specs.Lemmas.Counted.{keys_of_segments}
use Rattle.kmc_base.proofs.laws.keys_of_segments.Goals as goal

pub returns : goal.returns
returns c = keys_of_segments
