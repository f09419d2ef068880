use Rattle.kmc_store.proofs.Held.{both_held}
use Rattle.kmc_store.proofs.laws.merged_bins_hold_both.Goals as goal

pub returns : goal.returns
returns c = λ shape reads more old other new h g m. both_held c.cut_exists.ensures c.cut_is_unique.ensures shape reads more old other new h g m
