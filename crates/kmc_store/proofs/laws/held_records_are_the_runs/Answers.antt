use Rattle.kmc_store.proofs.Held.{as_often}
use Rattle.kmc_store.proofs.laws.held_records_are_the_runs.Goals as goal

pub returns : goal.returns
returns c = as_often c.body_has_one_list.ensures c.cut_is_unique.ensures
