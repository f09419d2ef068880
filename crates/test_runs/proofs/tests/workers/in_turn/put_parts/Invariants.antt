use Rattle.kmc_partqueue.specs.SameSeats.{IsSameWriter}
use Rattle.test_runs.proofs.tests.workers.in_turn.put_parts.Given as goal

abbrev pub invariant-loop-part : goal.invariant-loop-part
invariant-loop-part g l = IsSameWriter l.initial.seat l.seat
