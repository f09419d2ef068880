use Rattle.std.proofs.Common.{◌≡◌, ℕ, ◌+◌, ◌<◌, ◌≤◌, get_or}
use Rattle.kmc_dump.proofs.slots.add_sizes.Given as goal

-- the slots so far have both numbers, the others what they had
abbrev pub invariant-loop-slot : goal.invariant-loop-slot
invariant-loop-slot l = record {
  done : (i : ℕ) → i < l.slot → get_or l.sizes i 0 ≡ get_or l.initial.sizes i 0 + get_or l.more i 0;
  left : (i : ℕ) → l.slot ≤ i → get_or l.sizes i 0 ≡ get_or l.initial.sizes i 0;
}
