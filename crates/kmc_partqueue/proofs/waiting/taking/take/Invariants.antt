use Rattle.std.proofs.Common.{◌≡◌}
use Rattle.kmc_partqueue.specs.Seats.{AllEnded, KeepsNotes}
use Rattle.kmc_partqueue.proofs.waiting.taking.take.Given as goal

abbrev pub invariant-loop : goal.invariant-loop
invariant-loop g l =
    (l.s.table ≡ l.initial.s.table) × (l.s.number ≡ l.initial.s.number) × (l.s.per_writer ≡ l.initial.s.per_writer)
    × (l.s.writers ≡ l.initial.s.writers) × (l.s.got ≡ l.initial.s.got) × KeepsNotes l.initial.s l.s
    × (AllEnded l.initial.s.writers l.initial.s.totals → l.s ≡ l.initial.s)
