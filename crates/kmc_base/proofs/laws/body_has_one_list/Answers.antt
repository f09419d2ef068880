use Rattle.kmc_base.specs.Lemmas.Unique.{one_list}
use Rattle.kmc_base.proofs.laws.body_has_one_list.Goals as goal

pub returns : goal.returns
returns c = λ k ss ts body h g. one_list k ss ts body h g
