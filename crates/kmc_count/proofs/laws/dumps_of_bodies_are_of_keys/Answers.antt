use Rattle.kmc_count.proofs.MergedDump.{dumps_of_keys}
use Rattle.kmc_count.proofs.laws.dumps_of_bodies_are_of_keys.Goals as goal

pub returns : goal.returns
returns c = dumps_of_keys c.body_has_one_list.ensures
