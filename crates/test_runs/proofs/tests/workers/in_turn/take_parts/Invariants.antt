use Rattle.kmc_partqueue.specs.SameSeats.{IsSameReader}
use Rattle.test_runs.proofs.tests.workers.in_turn.take_parts.Given as goal

abbrev pub invariant-tries : goal.invariant-tries
invariant-tries g l = IsSameReader l.initial.seat l.seat
