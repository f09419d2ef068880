use Rattle.std.proofs.Common.{◌≡◌, ℕ, ◌-◌, ◌<◌, ◌≤◌, false, IsTrue, get_or}
use Rattle.std.specs.Slots.{slots_filled, slots_len}
use Rattle.kmc_partqueue.proofs.gather.drain.Given as goal

abbrev pub invariant-loop-i : goal.invariant-loop-i
invariant-loop-i g l =
    ((k : ℕ) → l.i ≤ k → k < slots_len l.closed.slots → IsTrue (get_or (slots_filled l.closed.slots) k false))
    × ((k : ℕ) → k < l.i → get_or (slots_filled l.closed.slots) k false ≡ false)

abbrev pub decreases-loop-i : goal.decreases-loop-i
decreases-loop-i g l = slots_len l.closed.slots - l.i
