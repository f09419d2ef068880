use Rattle.std.proofs.Common.{◌≡◌, ◌≤◌, ◌^◌, take, vec_capacity}
use Rattle.kmc_dump.specs.Keys.{key_pairs}
use Rattle.kmc_lists.specs.Ordered.{within, joined, packs}
use Rattle.kmc_dump.proofs.keys.put_keys.Given as goal

-- the keys of those pairs of the lists so far that lie in the range
abbrev pub invariant-loop-list : goal.invariant-loop-list
invariant-loop-list g l = record {
  capacity : vec_capacity l.initial.keys ≤ vec_capacity l.keys;
  pairs : key_pairs l.least g.C.CountWidth.bits l.keys.items ≡ within (2 ^ l.range.shift) l.range.from l.range.to (joined (packs (take l.list-index l.lists)));
}
