use Rattle.std.proofs.Common.{◌≡◌, ℕ, ◌+◌, ◌<◌, ◌^◌, length, get_or, take}
use Rattle.kmc_lists.specs.Ordered.{within}
use Rattle.kmc_dump.proofs.slots.add_list.Given as goal

-- each slot has its pairs so far
abbrev pub invariant-loop-i : goal.invariant-loop-i
invariant-loop-i g l = (s : ℕ) → s < length l.sizes → get_or l.sizes s 0 ≡ get_or l.initial.sizes s 0 + length
    (within (2 ^ l.shift) s (s + 1) (take l.i l.list.packed))
