use Rattle.kmc_sum.proofs.Parts.{counts_add}
use Rattle.kmc_sum.proofs.laws.counts_add.Goals as goal

pub returns : goal.returns
returns c = counts_add
