use Rattle.kmc_base.specs.Lemmas.Unique.{one_spelling}
use Rattle.kmc_base.proofs.laws.no_spelling_begins_another.Goals as goal

pub returns : goal.returns
returns c = λ k s t rest other h g e. one_spelling k s t rest other h g e
