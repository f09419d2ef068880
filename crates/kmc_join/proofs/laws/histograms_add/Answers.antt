use Rattle.kmc_join.proofs.Adding.{histograms_add}
use Rattle.kmc_join.proofs.laws.histograms_add.Goals as goal

pub returns : goal.returns
returns c = histograms_add
