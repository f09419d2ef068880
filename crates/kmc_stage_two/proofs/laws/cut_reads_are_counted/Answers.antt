use Rattle.kmc_stage_two.proofs.Cutting.{cut_counted}
use Rattle.kmc_stage_two.proofs.laws.cut_reads_are_counted.Goals as goal

pub returns : goal.returns
returns c = cut_counted
