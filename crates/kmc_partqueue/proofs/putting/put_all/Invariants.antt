use Rattle.std.proofs.Common.{◌≡◌, ◌++◌}
use Rattle.std.specs.Vec.Iter.{into_iter_items}
use Rattle.kmc_partqueue.specs.SameSeats.{IsSameWriter}
use Rattle.kmc_partqueue.proofs.putting.put_all.Given as goal

abbrev pub invariant-loop-part : goal.invariant-loop-part
invariant-loop-part g l =
    IsSameWriter l.initial.s l.s × (l.s.sent ≡ l.initial.s.sent ++ l.yielded) × (l.fn.parts.items ≡ l.yielded ++ into_iter_items l.part-iterator)
