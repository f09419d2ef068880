use Rattle.std.proofs.Common.{◌≡◌}
use Rattle.kmc_partqueue.specs.SameSeats.{IsSameWriter}
use Rattle.kmc_partqueue.proofs.putting.put_part.Given as goal

abbrev pub invariant-loop : goal.invariant-loop
invariant-loop g l = IsSameWriter l.initial.s l.s × (l.s.sent ≡ l.initial.s.sent) × (l.part ≡ l.initial.part)
