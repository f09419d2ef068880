use Rattle.std.specs.Ordering.{nat_cmp}
use Rattle.kmc_join.proofs.Numbering.{no_tally, none_seen}
use Rattle.kmc_join.proofs.laws.nothing_is_tallied.Goals as goal

pub returns : goal.returns
returns c = λ tally empty. (no_tally nat_cmp tally empty, none_seen nat_cmp tally empty)
