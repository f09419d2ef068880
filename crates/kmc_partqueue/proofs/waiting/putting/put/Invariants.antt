use Rattle.std.proofs.Common.{◌≡◌}
use Rattle.kmc_partqueue.proofs.waiting.putting.put.Given as goal

abbrev pub invariant-loop : goal.invariant-loop
invariant-loop g l =
    (l.s.table ≡ l.initial.s.table) × (l.s.number ≡ l.initial.s.number) × (l.s.per_writer ≡ l.initial.s.per_writer) × (l.s.sent ≡ l.initial.s.sent)
    × (l.part ≡ l.initial.part)
