use Rattle.std.proofs.Common.{◌≡◌, ℕ, ◌<◌, length, get_or}
use Rattle.kmc_sum.specs.Sources.{IsFresh}
use Rattle.kmc_sum.specs.declared.source.Room.{Room}
use Rattle.kmc_sum.proofs.opening.rooms_for.Given as goal

abbrev pub invariant-loop-i : goal.invariant-loop-i
invariant-loop-i l = (length l.rooms.items ≡ l._i) × ((j : ℕ) (room : Room) → j < l._i → IsFresh (get_or l.rooms.items j room))
