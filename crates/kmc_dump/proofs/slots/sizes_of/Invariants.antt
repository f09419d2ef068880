use Rattle.std.proofs.Common.{◌≡◌, ◌^◌, length, take}
use Rattle.kmc_dump.specs.Ranges.{AreSizes}
use Rattle.kmc_dump.proofs.slots.sizes_of.Given as goal

-- each slot has the pairs of the lists so far
abbrev pub invariant-loop-list : goal.invariant-loop-list
invariant-loop-list g l = record {
  long : length l.sizes.items ≡ l.slots;
  each : AreSizes (2 ^ l.shift) l.sizes.items (take l.list-index l.lists);
}
