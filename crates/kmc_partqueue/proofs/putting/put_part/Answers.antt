use Rattle.std.proofs.Common.{◌<◌, ◌++◌, ◌∷◌, [], sym, subst, ◌∙◌}
use Rattle.kmc_partqueue.specs.Lemmas.SameSeats.{same_seat}
use Rattle.kmc_partqueue.proofs.putting.put_part.Goals as goal

pub try_put-requires : goal.try_put-requires
try_put-requires g c = let same = c.loop.invariant.0 in (
  same.table ∙ c.requires.0,
  same.per_writer ∙ c.requires.1,
  subst (λ n. n < c.args.way.now.lanes.shape.writers) (sym same.number) c.requires.2,
)

pub returns-in-Ok-clause-seat : goal.returns-in-Ok-clause-seat
returns-in-Ok-clause-seat g c =
    let e = c.in-Ok.ensures.seat in
    same_seat c.args.s.now c.loop.s c.try_put.new.s c.loop.invariant.0 record { table = e.0; number = e.1; per_writer = e.2 }

pub returns-in-Err-NumbersSpent-default-clause-seat : goal.returns-in-Err-NumbersSpent-default-clause-seat
returns-in-Err-NumbersSpent-default-clause-seat g c =
    let e = c.in-Err-NumbersSpent-default.ensures.seat in
    same_seat c.args.s.now c.loop.s c.try_put.new.s c.loop.invariant.0 record { table = e.0; number = e.1; per_writer = e.2 }

pub returns-then-is_stopped-clause-seat : goal.returns-then-is_stopped-clause-seat
returns-then-is_stopped-clause-seat g c =
    let e = c.in-Err-Full-default.ensures.seat in
    same_seat c.args.s.now c.loop.s c.try_put.new.s c.loop.invariant.0 record { table = e.0; number = e.1; per_writer = e.2 }

pub returns-in-Ok-clause-put : goal.returns-in-Ok-clause-put
returns-in-Ok-clause-put g c =
    let inv = c.loop.invariant in
    c.in-Ok.ensures.put.1 ∙ (λ i. inv.1 i ++ inv.2 i ∷ [])

pub loop-preserved : goal.loop-preserved
loop-preserved g c =
    let inv = c.loop.invariant in
    let e = c.in-Err-Full-default.ensures in (
      same_seat c.args.s.now c.loop.s c.try_put.new.s inv.0 record { table = e.seat.0; number = e.seat.1; per_writer = e.seat.2 },
      e.put.1 ∙ inv.1,
      e.put.0 ∙ inv.2,
    )
