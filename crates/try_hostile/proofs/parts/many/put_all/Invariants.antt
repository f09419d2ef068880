use Rattle.std.proofs.Common.{◌≡◌}
use Rattle.try_hostile.proofs.parts.many.put_all.Given as goal

abbrev pub invariant-loop-number : goal.invariant-loop-number
invariant-loop-number g l = (l.seat.table ≡ l.initial.seat.table) × (l.seat.number ≡ l.initial.seat.number) × (l.seat.per_writer ≡ l.initial.seat.per_writer)
