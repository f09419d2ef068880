use Rattle.std.proofs.Common.{◌≡◌, ◌^◌, take}
use Rattle.kmc_dump.specs.Ranges.{count_within}
use Rattle.kmc_dump.proofs.parting.count_range.Given as goal

-- the pairs of the lists so far
abbrev pub invariant-loop-list : goal.invariant-loop-list
invariant-loop-list g l = l.total ≡ count_within (2 ^ l.range.shift) l.range.from l.range.to (take l.list-index l.lists)
