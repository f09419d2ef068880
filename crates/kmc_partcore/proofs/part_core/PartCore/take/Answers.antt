-- What the code read is the counters of the first item's writer. Where there is no item, what all writers put has left.
use Rattle.std.proofs.Common.{◌≡◌, ◌∙◌, sym, ap, subst, rules, refl, map, Ok, true}
use Rattle.std.specs.Prelude.{All}
use Rattle.circular_buffer.specs.Buffer.{Buffer}
use Rattle.kmc_partcore.specs.declared.event.Event.TheVariants as event
use Rattle.kmc_partcore.specs.declared.event.Reply.TheVariants as reply
use Rattle.kmc_partcore.specs.declared.event.Taken.TheVariants.{Empty, Finished}
use Rattle.kmc_partcore.specs.declared.part_core.Counters.{Counters}
use Rattle.kmc_partcore.specs.declared.part_core.Queued.{Queued}
use Rattle.kmc_partcore.specs.Legal.{FitsTake}
use Rattle.kmc_partcore.specs.CoreState.{CoreState, live_in, MovesOn}
use Rattle.kmc_partcore.proofs.Answered.{take_core, becomes_so, legal_so, one_waits, finished_fits, finished_legal, empty_fits, empty_legal}
use Rattle.kmc_partcore.proofs.part_core.PartCore.take.Goals as goal

pub overflow_add-number : goal.overflow_add-number
overflow_add-number g c =
    let waits = one_waits _ _ _ c.self.invariant.1 c.args.reader c.in-Some.field-0 c.index-counters.result.now c.pop_front.new.self.items c.if-reader-self.false (sym c.in-Some.ensures.value) (ap (λ (b : Buffer (Queued g.row.T.Denot)). b.items) c.in-Some.ensures.items) c.index-counters.ensures in search rules

pub invariant_of-self : goal.invariant_of-self
invariant_of-self g c = (
  ap (λ (b : Buffer (Queued g.row.T.Denot)). b.capacity) c.in-Some.ensures.items ∙ c.self.invariant.0,
  take_core _ _ _ c.self.invariant.1 c.args.reader c.in-Some.field-0 c.index-counters.result.now _ c.if-reader-self.false
      (sym c.in-Some.ensures.value) (ap (λ (b : Buffer (Queued g.row.T.Denot)). b.items) c.in-Some.ensures.items) c.index-counters.ensures,
)

pub returns-in-Some-clause-state : goal.returns-in-Some-clause-state
returns-in-Some-clause-state g c =
    becomes_so _ _ _ c.self.invariant.1 c.args.reader c.in-Some.field-0 c.index-counters.result.now _ c.if-reader-self.false
    (sym c.in-Some.ensures.value) (ap (λ (b : Buffer (Queued g.row.T.Denot)). b.items) c.in-Some.ensures.items) c.index-counters.ensures _ c.self.view_is

pub returns-in-Some-clause-legal : goal.returns-in-Some-clause-legal
returns-in-Some-clause-legal g c =
    legal_so _ _ _ c.self.invariant.1 c.args.reader c.in-Some.field-0 c.index-counters.result.now _ c.if-reader-self.false
    (sym c.in-Some.ensures.value) (ap (λ (b : Buffer (Queued g.row.T.Denot)). b.items) c.in-Some.ensures.items) c.index-counters.ensures _ c.self.view_is

pub returns-then-all_completed-clause-answer : goal.returns-then-all_completed-clause-answer
returns-then-all_completed-clause-answer g c = subst (λ (s : CoreState g.row.T.Denot). FitsTake s.shape (live_in s) c.args.reader
    (Ok (Finished c.totals_of.result))) c.self.view_is
    (finished_fits _ _ _ c.self.invariant.1 c.args.reader _ c.if-reader-self.false (sym c.in-None.ensures.value)
    (ap (λ (b : Buffer (Queued g.row.T.Denot)). b.items) c.in-None.ensures.items) _
    (subst (All (λ (z : Counters). z.completed ≡ true)) c.deref.ensures.value (c.if-all_completed.ensures.0 refl))
    (c.totals_of.ensures ∙ ap (map (λ (z : Counters). z.accepted_count)) c.deref-then-all_completed.ensures.value))

pub returns-then-all_completed-clause-legal : goal.returns-then-all_completed-clause-legal
returns-then-all_completed-clause-legal g c = subst (λ s. MovesOn s (
  event.Take c.args.reader,
  reply.Take
      (Ok (Finished c.totals_of.result)),
) record {
  shape = c.self.inside.shape;
  writers = c.self.inside.writers.items;
  queue =
      c.pop_front.new.self.items;
}) c.self.view_is
    (finished_legal _ _ _ c.self.invariant.1 c.args.reader _ c.if-reader-self.false (sym c.in-None.ensures.value)
    (ap (λ (b : Buffer (Queued g.row.T.Denot)). b.items) c.in-None.ensures.items) _
    (subst (All (λ (z : Counters). z.completed ≡ true)) c.deref.ensures.value (c.if-all_completed.ensures.0 refl))
    (c.totals_of.ensures ∙ ap (map (λ (z : Counters). z.accepted_count)) c.deref-then-all_completed.ensures.value))

pub returns-clause-answer : goal.returns-clause-answer
returns-clause-answer g c = subst (λ (s : CoreState g.row.T.Denot). FitsTake s.shape (live_in s) c.args.reader (Ok Empty)) c.self.view_is
    (empty_fits _ _ _ c.self.invariant.1 c.args.reader _ c.if-reader-self.false (sym c.in-None.ensures.value)
    (ap (λ (b : Buffer (Queued g.row.T.Denot)). b.items) c.in-None.ensures.items)
    (λ all. let yes = c.if-all_completed.ensures.1 (subst (All (λ (z : Counters). z.completed ≡ true)) (sym c.deref.ensures.value) all) in cc))

pub returns-clause-legal : goal.returns-clause-legal
returns-clause-legal g c = subst (λ s. MovesOn s (event.Take c.args.reader, reply.Take (Ok Empty)) record {
  shape = c.self.inside.shape;
  writers = c.self.inside.writers.items;
  queue = c.pop_front.new.self.items;
}) c.self.view_is
    (empty_legal _ _ _ c.self.invariant.1 c.args.reader _ c.if-reader-self.false (sym c.in-None.ensures.value)
    (ap (λ (b : Buffer (Queued g.row.T.Denot)). b.items) c.in-None.ensures.items)
    (λ all. let yes = c.if-all_completed.ensures.1 (subst (All (λ (z : Counters). z.completed ≡ true)) (sym c.deref.ensures.value) all) in cc))
