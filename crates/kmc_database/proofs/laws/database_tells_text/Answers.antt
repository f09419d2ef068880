use Rattle.kmc_database.proofs.TextOfDatabase.{text_is}
use Rattle.kmc_database.proofs.laws.database_tells_text.Goals as goal

pub returns : goal.returns
returns c = λ h pairs prefix suffix is few files. text_is h is few pairs prefix suffix files
