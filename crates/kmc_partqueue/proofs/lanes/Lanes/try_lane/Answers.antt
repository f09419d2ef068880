use Rattle.std.proofs.Common.{arith, refl, sym, ap, ◌∙◌, ◌≡◌, ℕ, ◌<◌, ◌++◌, ◌∷◌, [], Some, None, slice_get, subst, length-set}
use Rattle.kmc_partqueue.specs.declared.views.Reading.{Reading}
use Rattle.kmc_partqueue.specs.Seats.{got_of, Rests}
use Rattle.kmc_partqueue.specs.Plays.{looking, seeing, taking, freeing, ending}
use Rattle.kmc_partqueue.proofs.ReaderCalls.{noted_more, kept_more, not_all_seen, between}
use Rattle.kmc_partqueue.proofs.lanes.Lanes.try_lane.Given.{Over}
use Rattle.kmc_partqueue.proofs.lanes.Lanes.try_lane.Goals.{After-look-head}
use Rattle.kmc_partqueue.proofs.lanes.Lanes.try_lane.Goals as goal

-- the seat before the head is read, and what it knows after
resting : (g : Over) (c : After-look-head g) → Rests c.args.self.now.shape c.s.inside.seat.me c.s.invariant.view
resting g c = let inv = c.s.invariant in let vi = c.s.view_is in (
  inv.is,
  inv.writers_is ∙ ap (λ v. v.writers) vi ∙ c.requires.queue.2,
  inv.per_writer_is ∙ ap (λ v. v.per_writer) vi ∙ c.requires.queue.1,
  inv.empty,
)

abbrev at_head : (g : Over) → After-look-head g → Reading g.row.T.Denot
at_head g c = looking c.s.invariant.view c.args.lane c.look-head.result.0

had : (g : Over) (c : After-look-head g) → c.s.invariant.view.got ≡ c.args.s.now.got
had g c = sym (ap (λ m. got_of m.0) c.s.invariant.is) ∙ ap (λ v. v.got) c.s.view_is

same_table : (g : Over) (c : After-look-head g) → c.look-head.new.seat.table_id ≡ c.args.s.now.table
same_table g c = c.look-head.ensures.queue ∙ ap (λ v. v.table) c.s.view_is

open_yet : (g : Over) (c : After-look-head g) → slice_get c.s.inside.totals c.args.lane ≡ Some None
open_yet g c = ap (λ v. slice_get v.totals c.args.lane) c.s.view_is ∙ c.requires.lane.1

pub look-head-requires : goal.look-head-requires
look-head-requires g c = let inv = c.s.invariant in let vi = c.s.view_is in record {
  queue = ap (λ v. v.table) vi ∙ c.requires.queue.0;
  lane = c.requires.lane.0;
  rests = (
    inv.view,
    (
      inv.is,
      inv.writers_is ∙ ap (λ v. v.writers) vi ∙ c.requires.queue.2,
      inv.per_writer_is ∙ ap (λ v. v.per_writer) vi ∙ c.requires.queue.1,
      inv.empty,
    ),
  );
}

pub take_seen-requires-clause-seen : goal.take_seen-requires-clause-seen
take_seen-requires-clause-seen g c = let p = (goal.at.take_seen-requires-clause-seen g c).After-look-head in let r = resting g p in (
  seeing (at_head g p),
  (c.look-head.ensures.published c.if-published.true c.s.invariant.view r, r.1, r.2, r.3),
  refl,
  refl,
  refl,
)

pub invariant_of-s : goal.invariant_of-s
invariant_of-s g c =
    let p = (goal.at.invariant_of-s g c).After-look-head in let inv = c.s.invariant in
    let seen = c.look-head.ensures.published c.if-published.true inv.view (resting g p) in
    between (freeing (taking (seeing (at_head g p)) c.in-Some.item)) c.take_seen.new.seat.me _ _ _ _ _
    (c.in-Some.ensures.taken (seeing (at_head g p)) seen refl) inv.number_is inv.writers_is inv.per_writer_is refl inv.noted inv.long
    (subst (λ (z : ℕ). c.lane_after-s-inside.result < z) (sym (ap (λ v. v.writers) c.s.view_is ∙ c.requires.queue.2)) c.lane_after-s-inside.ensures) inv.few

pub returns-in-Some-clause-got : goal.returns-in-Some-clause-got
returns-in-Some-clause-got g c =
    let p = (goal.at.returns-in-Some-clause-got g c).After-look-head in let old = had g p in
    let seen = c.look-head.ensures.published c.if-published.true c.s.invariant.view (resting g p) in (
      ap (λ m. got_of m.0) (c.in-Some.ensures.taken (seeing (at_head g p)) seen refl)
          ∙ (λ j. old j ++ record { writer = c.args.lane; number = c.look-head.result.0; item = c.in-Some.item } ∷ []),
      ap (λ v. v.totals) c.s.view_is,
    )

-- another reader was before this one
pub invariant_of-s-in-None : goal.invariant_of-s-in-None
invariant_of-s-in-None g c =
    let p = (goal.at.invariant_of-s-in-None g c).After-look-head in let inv = c.s.invariant in
    let seen = c.look-head.ensures.published c.if-published.true inv.view (resting g p) in
    between (seeing (at_head g p)) c.take_seen.new.seat.me _ _ _ _ _ (c.in-None.ensures.taken (seeing (at_head g p)) seen refl ∙ seen)
    inv.number_is inv.writers_is inv.per_writer_is inv.empty inv.noted inv.long inv.near inv.few

pub returns-in-None-clause-got : goal.returns-in-None-clause-got
returns-in-None-clause-got g c =
    let p = (goal.at.returns-in-None-clause-got g c).After-look-head in
    let seen = c.look-head.ensures.published c.if-published.true c.s.invariant.view (resting g p) in
    ap (λ m. got_of m.0) (c.in-None.ensures.taken (seeing (at_head g p)) seen refl ∙ seen) ∙ had g p

pub sees_end-requires-clause-open : goal.sees_end-requires-clause-open
sees_end-requires-clause-open g c = let p = (goal.at.sees_end-requires-clause-open g c).After-look-head in let inv = c.s.invariant in (
  at_head g p,
  c.look-head.ensures.waits c.if-published.false inv.view (resting g p),
  refl,
  not_all_seen inv.view.ends c.s.inside.totals c.args.self.now.shape.writers c.args.lane inv.noted (open_yet g p) c.requires.lane.0,
)

pub invariant_of-s-then-sees_end : goal.invariant_of-s-then-sees_end
invariant_of-s-then-sees_end g c =
    let p = (goal.at.invariant_of-s-then-sees_end g c).After-look-head in let me = c.args.self.now in let inv = c.s.invariant in
    let lane : ℕ = c.args.lane in let near : lane < me.shape.writers = c.requires.lane.0 in let h : ℕ = c.look-head.result.0 in
    let waits = c.look-head.ensures.waits c.if-published.false inv.view (resting g p) in
    between (ending (at_head g p)) c.sees_end.new.seat.me _ _ _ _ _ (c.sees_end.ensures.ended c.if-sees_end.true (at_head g p) waits refl)
    inv.number_is inv.writers_is inv.per_writer_is inv.empty
    (noted_more inv.view.ends c.s.inside.totals lane h inv.noted (open_yet g p) (let l = inv.long in let m = me.shape.within.1 in omega arith))
    (length-set c.s.inside.totals lane (Some h) ∙ inv.long) inv.near inv.few

pub returns-then-sees_end-clause-got : goal.returns-then-sees_end-clause-got
returns-then-sees_end-clause-got g c =
    let p = (goal.at.returns-then-sees_end-clause-got g c).After-look-head in
    let waits = c.look-head.ensures.waits c.if-published.false c.s.invariant.view (resting g p) in
    ap (λ m. got_of m.0) (c.sees_end.ensures.ended c.if-sees_end.true (at_head g p) waits refl) ∙ had g p

pub returns-then-sees_end-clause-notes : goal.returns-then-sees_end-clause-notes
returns-then-sees_end-clause-notes g c =
    let p = (goal.at.returns-then-sees_end-clause-notes g c).After-look-head in let vi = c.s.view_is in
    λ w t is. kept_more c.s.inside.totals c.args.lane c.look-head.result.0 w t (open_yet g p) (ap (λ v. slice_get v.totals w) vi ∙ is)

pub invariant_of-s-else-sees_end : goal.invariant_of-s-else-sees_end
invariant_of-s-else-sees_end g c =
    let p = (goal.at.invariant_of-s-else-sees_end g c).After-look-head in let inv = c.s.invariant in
    let waits = c.look-head.ensures.waits c.if-published.false inv.view (resting g p) in
    between (at_head g p) c.sees_end.new.seat.me _ _ _ _ _ (c.sees_end.ensures.open c.if-sees_end.false (at_head g p) waits refl ∙ waits)
    inv.number_is inv.writers_is inv.per_writer_is inv.empty inv.noted inv.long inv.near inv.few

pub returns-clause-got : goal.returns-clause-got
returns-clause-got g c =
    let p = (goal.at.returns-clause-got g c).After-look-head in
    let waits = c.look-head.ensures.waits c.if-published.false c.s.invariant.view (resting g p) in
    ap (λ m. got_of m.0) (c.sees_end.ensures.open c.if-sees_end.false (at_head g p) waits refl ∙ waits) ∙ had g p

pub take_seen-requires-clause-queue : goal.take_seen-requires-clause-queue
take_seen-requires-clause-queue g c = same_table g (goal.at.take_seen-requires-clause-queue g c).After-look-head ∙ c.requires.queue.0

pub take_seen-requires-clause-lane : goal.take_seen-requires-clause-lane
take_seen-requires-clause-lane g c = (c.requires.lane.0, c.look-head.ensures.head)

pub sees_end-requires-clause-queue : goal.sees_end-requires-clause-queue
sees_end-requires-clause-queue g c = same_table g (goal.at.sees_end-requires-clause-queue g c).After-look-head ∙ c.requires.queue.0

pub sees_end-requires-clause-lane : goal.sees_end-requires-clause-lane
sees_end-requires-clause-lane g c = (c.requires.lane.0, c.look-head.ensures.head)

pub lane_after-s-inside-requires : goal.lane_after-s-inside-requires
lane_after-s-inside-requires g c = c.requires.lane.0

pub offset_bounds-s-inside-lane : goal.offset_bounds-s-inside-lane
offset_bounds-s-inside-lane g c =
    let few = c.args.self.now.shape.within.1 in let near = c.requires.lane.0 in omega arith

pub bounds-s-inside-lane : goal.bounds-s-inside-lane
bounds-s-inside-lane g c = let few = c.args.self.now.shape.within.1 in let near = c.requires.lane.0 in omega arith

pub returns-in-Some-clause-seat : goal.returns-in-Some-clause-seat
returns-in-Some-clause-seat g c =
    let p = (goal.at.returns-in-Some-clause-seat g c).After-look-head in let vi = c.s.view_is in
    (c.take_seen.ensures.queue ∙ same_table g p, ap (λ v. v.number) vi, ap (λ v. v.per_writer) vi, ap (λ v. v.writers) vi)

pub returns-in-Some-clause-notes : goal.returns-in-Some-clause-notes
returns-in-Some-clause-notes g c = λ w t is. ap (λ v. slice_get v.totals w) c.s.view_is ∙ is

pub returns-in-None-clause-seat : goal.returns-in-None-clause-seat
returns-in-None-clause-seat g c =
    let p = (goal.at.returns-in-None-clause-seat g c).After-look-head in let vi = c.s.view_is in
    (c.take_seen.ensures.queue ∙ same_table g p, ap (λ v. v.number) vi, ap (λ v. v.per_writer) vi, ap (λ v. v.writers) vi)

pub returns-in-None-clause-notes : goal.returns-in-None-clause-notes
returns-in-None-clause-notes g c = λ w t is. ap (λ v. slice_get v.totals w) c.s.view_is ∙ is

pub returns-then-sees_end-clause-seat : goal.returns-then-sees_end-clause-seat
returns-then-sees_end-clause-seat g c =
    let p = (goal.at.returns-then-sees_end-clause-seat g c).After-look-head in let vi = c.s.view_is in
    (c.sees_end.ensures.queue ∙ same_table g p, ap (λ v. v.number) vi, ap (λ v. v.per_writer) vi, ap (λ v. v.writers) vi)

pub returns-clause-seat : goal.returns-clause-seat
returns-clause-seat g c =
    let p = (goal.at.returns-clause-seat g c).After-look-head in let vi = c.s.view_is in
    (c.sees_end.ensures.queue ∙ same_table g p, ap (λ v. v.number) vi, ap (λ v. v.per_writer) vi, ap (λ v. v.writers) vi)

pub returns-clause-notes : goal.returns-clause-notes
returns-clause-notes g c = λ w t is. ap (λ v. slice_get v.totals w) c.s.view_is ∙ is
