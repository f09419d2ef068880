use Rattle.kmc_stage_two.specs.Lemmas.Whole.{whole_merged}
use Rattle.kmc_stage_two.proofs.laws.whole_is_merged.Goals as goal

pub returns : goal.returns
returns c = whole_merged
