use Rattle.kmc_join.proofs.Tallies.{histogram_is}
use Rattle.kmc_join.proofs.laws.tally_is_histogram.Goals as goal

pub returns : goal.returns
returns c = histogram_is
