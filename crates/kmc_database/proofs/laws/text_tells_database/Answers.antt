use Rattle.kmc_database.proofs.TextTells.{text_tells}
use Rattle.kmc_database.proofs.laws.text_tells_database.Goals as goal

pub returns : goal.returns
returns c = λ h k pairs prefix suffix is few lists. text_tells h is few prefix suffix c.text_lists_one.ensures k pairs lists
