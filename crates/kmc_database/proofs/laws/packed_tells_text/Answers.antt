use Rattle.kmc_database.proofs.TextOfDatabase.{packed_text}
use Rattle.kmc_database.proofs.laws.packed_tells_text.Goals as goal

pub returns : goal.returns
returns c = packed_text
