use Rattle.kmc_sum.proofs.Parts.{whole}
use Rattle.kmc_sum.proofs.laws.sum_of_parts_is_whole.Goals as goal

pub returns : goal.returns
returns c = whole
