use Rattle.kmc_database.proofs.ReadBack.{one_list}
use Rattle.kmc_database.proofs.laws.packed_is_read_back.Goals as goal

pub returns : goal.returns
returns c = one_list
