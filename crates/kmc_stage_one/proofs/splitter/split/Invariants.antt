use Rattle.std.proofs.Common.{map}
use Rattle.kmc_store.specs.Deals.{AreDealt}
use Rattle.kmc_partqueue.specs.SameSeats.{IsSameWriter}
use Rattle.kmc_stage_one.proofs.splitter.split.Given as goal

abbrev pub invariant-loop-c : goal.invariant-loop-c
invariant-loop-c g l = IsSameWriter l.initial.s l.s
    × AreDealt l.fn.plan.shape l.fn.plan.batch (map (λ r. r.now) l.reads) l.way.writers l.initial.s.number l.c l.s.sent
