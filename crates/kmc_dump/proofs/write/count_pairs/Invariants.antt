use Rattle.std.proofs.Common.{◌≡◌, length, take}
use Rattle.kmc_lists.specs.Ordered.{joined, packs}
use Rattle.kmc_dump.proofs.write.count_pairs.Given as goal

abbrev pub invariant-loop-list : goal.invariant-loop-list
invariant-loop-list g l = l.total ≡ length (joined (packs (take l.list-index l.lists)))
