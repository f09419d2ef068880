use Rattle.kmc_base.specs.Lemmas.Counted.{segments_are_counted}
use Rattle.kmc_base.proofs.laws.segments_are_counted.Goals as goal

pub returns : goal.returns
returns c = segments_are_counted
