use Rattle.std.proofs.Common.{◌≡◌}
use Rattle.try_hostile.proofs.parts.many.take_all.Given as goal

abbrev pub invariant-loop : goal.invariant-loop
invariant-loop g l = (l.seat.table ≡ l.initial.seat.table) × (l.seat.number ≡ l.initial.seat.number)
    × (l.seat.per_writer ≡ l.initial.seat.per_writer) × (l.seat.writers ≡ l.initial.seat.writers)
