use Rattle.kmc_database.proofs.ReadBack.{dumped}
use Rattle.kmc_database.proofs.laws.unpacked_is_dump.Goals as goal

pub returns : goal.returns
returns c = dumped
