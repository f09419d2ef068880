use Rattle.kmc_store.proofs.Held.{none_held}
use Rattle.kmc_store.proofs.laws.empty_bins_hold_no_reads.Goals as goal

pub returns : goal.returns
returns c = none_held
