use Rattle.std.proofs.Common.{◌++◌, ◌∷◌, [], arith, sym, ap, ◌∙◌, ℕ, ◌<◌, slice_get, subst}
use Rattle.std.proofs.lemmas.Bool.{both_ways}
use Rattle.kmc_partqueue.specs.Seats.{AllEnded}
use Rattle.kmc_partqueue.proofs.ReaderCalls.{open_or_ended}
use Rattle.kmc_partqueue.proofs.lanes.Lanes.try_take.Goals as goal
use Rattle.kmc_partqueue.proofs.lanes.Lanes.try_take.Goals.{then-is_open+in-None, else-is_open}

pub returns-in-Some-clause-again : goal.returns-in-Some-clause-again
returns-in-Some-clause-again g c = λ all. let inv = c.loop.invariant in let same = inv.7 all in
    absurd (open_or_ended (ap (λ v. slice_get v.totals c.loop.lane) (sym same) ∙ c.is_open.ensures.open c.if-is_open.true)
    (all c.loop.lane (subst (λ (z : ℕ). c.loop.lane < z) (sym c.requires.2) inv.5)).1)

pub loop-preserved : goal.loop-preserved
loop-preserved g c =
    let inv = c.loop.invariant in let lane = c.lane_after-lane.ensures in
    elim c.if-is_open.branch [
      | then-is_open+in-None w ↦ (let t = w.in-None.ensures in let is = w.s-is in (
        ap (λ v. v.table) is ∙ t.seat.0 ∙ inv.0,
        ap (λ v. v.number) is ∙ t.seat.1 ∙ inv.1,
        ap (λ v. v.per_writer) is ∙ t.seat.2 ∙ inv.2,
        ap (λ v. v.writers) is ∙ t.seat.3 ∙ inv.3,
        ap (λ v. v.got) is ∙ t.got ∙ inv.4,
        lane,
        (λ v n e. ap (λ z. slice_get z.totals v) is ∙ t.notes v n (inv.6 v n e)),
        λ ended. let same = inv.7 ended in absurd (open_or_ended (ap (λ v. slice_get v.totals c.loop.lane) (sym same)
            ∙ c.is_open.ensures.open w.if-is_open.true) (ended c.loop.lane (subst (λ (z : ℕ). c.loop.lane < z) (sym c.requires.2) inv.5)).1),
      ))
      | else-is_open w ↦ (let is = w.s-is in (
        ap (λ v. v.table) is ∙ inv.0,
        ap (λ v. v.number) is ∙ inv.1,
        ap (λ v. v.per_writer) is ∙ inv.2,
        ap
            (λ v. v.writers) is ∙ inv.3,
        ap (λ v. v.got) is ∙ inv.4,
        lane,
        (λ v n e. ap (λ z. slice_get z.totals v) is ∙ inv.6 v n e),
        λ ended. is ∙ inv.7 ended,
      ))
    ]

pub returns-else-finished-clause-again : goal.returns-else-finished-clause-again
returns-else-finished-clause-again g c = λ all. let same = c.loop.invariant.7 all in absurd
    (absurd (both_ways _ c.if-finished.false (c.finished.ensures.1 (subst (λ v. AllEnded v.writers v.totals) (sym same) all))))

pub returns-in-Some-clause-answer : goal.returns-in-Some-clause-answer
returns-in-Some-clause-answer g c = let inv = c.loop.invariant in let e = c.in-Some.ensures in (
  e.got.0 ∙ ap (λ z. z ++ c.in-Some.part ∷ []) inv.4,
  λ all. absurd (open_or_ended (ap (λ z. slice_get z c.loop.lane) e.got.1 ∙ c.is_open.ensures.open c.if-is_open.true)
      (all c.loop.lane (subst (λ (z : ℕ). c.loop.lane < z) (sym (e.seat.3 ∙ inv.3 ∙ c.requires.2)) inv.5)).1),
)

pub is_open-requires : goal.is_open-requires
is_open-requires g c = let inv = c.loop.invariant in let lane : ℕ = c.loop.lane in (
  subst (λ (z : ℕ). lane < z) (sym (inv.3 ∙ c.requires.2)) inv.5,
  let near = inv.5 in let few = c.args.self.now.shape.within.1 in let x : lane < 16 = omega arith in x,
)

pub try_lane-requires-clause-queue : goal.try_lane-requires-clause-queue
try_lane-requires-clause-queue g c =
    let inv = c.loop.invariant in (inv.0 ∙ c.requires.0, inv.2 ∙ c.requires.1, inv.3 ∙ c.requires.2)

pub try_lane-requires-clause-lane : goal.try_lane-requires-clause-lane
try_lane-requires-clause-lane g c = (c.loop.invariant.5, c.is_open.ensures.open c.if-is_open.true)

pub returns-in-Some-clause-seat : goal.returns-in-Some-clause-seat
returns-in-Some-clause-seat g c =
    let inv = c.loop.invariant in let e = c.in-Some.ensures in (e.seat.0 ∙ inv.0, e.seat.1 ∙ inv.1, e.seat.2 ∙ inv.2, e.seat.3 ∙ inv.3)

pub returns-in-Some-clause-notes : goal.returns-in-Some-clause-notes
returns-in-Some-clause-notes g c = λ w t p. c.in-Some.ensures.notes w t (c.loop.invariant.6 w t p)

pub lane_after-lane-requires : goal.lane_after-lane-requires
lane_after-lane-requires g c = c.loop.invariant.5

pub all_totals-requires : goal.all_totals-requires
all_totals-requires g c = c.finished.ensures.0 c.if-finished.true

pub returns-then-finished-clause-seat : goal.returns-then-finished-clause-seat
returns-then-finished-clause-seat g c = let inv = c.loop.invariant in (inv.0, inv.1, inv.2, inv.3)

pub returns-then-finished-clause-answer : goal.returns-then-finished-clause-answer
returns-then-finished-clause-answer g c = (c.loop.invariant.4, c.finished.ensures.0 c.if-finished.true, c.all_totals.ensures)

pub returns-then-finished-clause-notes : goal.returns-then-finished-clause-notes
returns-then-finished-clause-notes g c = c.loop.invariant.6

pub returns-then-finished-clause-again : goal.returns-then-finished-clause-again
returns-then-finished-clause-again g c = λ all. (c.loop.invariant.7 all, tt)

pub returns-else-finished-clause-seat : goal.returns-else-finished-clause-seat
returns-else-finished-clause-seat g c = let inv = c.loop.invariant in (inv.0, inv.1, inv.2, inv.3)

pub returns-else-finished-clause-answer : goal.returns-else-finished-clause-answer
returns-else-finished-clause-answer g c =
    (c.loop.invariant.4, λ all. absurd (both_ways _ c.if-finished.false (c.finished.ensures.1 all)))

pub returns-else-finished-clause-notes : goal.returns-else-finished-clause-notes
returns-else-finished-clause-notes g c = c.loop.invariant.6
