use Rattle.kmc_store.proofs.Gathered.{gathered_held}
use Rattle.kmc_store.proofs.laws.gathered_parts_hold_reads.Goals as goal

pub returns : goal.returns
returns c = gathered_held c.cut_exists.ensures c.cut_is_unique.ensures c.cut_has_runs.ensures
