-- What the code read is the writer's counters, and by the invariant the ring has a place for the item.
use Rattle.std.proofs.Common.{◌+◌, ◌<◌, ◌∙◌, sym, ap, subst, length, set, Ok}
use Rattle.circular_buffer.specs.Buffer.{Buffer}
use Rattle.kmc_partcore.specs.declared.event.Event.TheVariants as event
use Rattle.kmc_partcore.specs.declared.event.Reply.TheVariants as reply
use Rattle.kmc_partcore.specs.declared.part_core.Queued.{Queued}
use Rattle.kmc_partcore.specs.CoreState.{IsCore, MovesOn}
use Rattle.kmc_partcore.proofs.Calls.{not_false, read, core_put, has_place}
use Rattle.kmc_partcore.proofs.Answered.{put_legal}
use Rattle.kmc_partcore.proofs.part_core.PartCore.put.Goals as goal

pub unreachable-requires : goal.unreachable-requires
unreachable-requires g c = let core = c.self.invariant.1 in let near = c.if-writer-self.false in let is = read _ _ _ _ _ core near c.index-counters.ensures in
    let place = has_place _ _ _ _ c.args.item _ core near is c.if-number-ge-MAX_ITEMS.false c.if-number-counters.false in
    let full = c.in-Err.ensures.variant.1 (subst (λ n. length c.self.inside.ring.items < n) (sym c.self.invariant.0) place) in cc

pub invariant_of-self : goal.invariant_of-self
invariant_of-self g c = let core = c.self.invariant.1 in let near = c.if-writer-self.false in let is = read _ _ _ _ _ core near c.index-counters.ensures in
    let after = core_put _ _ _ _ c.args.item _ core near is c.if-number-ge-MAX_ITEMS.false c.if-number-counters.false in let pushed = c.in-Ok.ensures.ok in (
      ap (λ (b : Buffer (Queued g.row.T.Denot)). b.capacity) pushed ∙ c.self.invariant.0,
      subst (IsCore c.self.inside.shape _)
          (sym (ap (λ (b : Buffer (Queued g.row.T.Denot)). b.items) pushed)) after,
    )

pub returns-clause-legal : goal.returns-clause-legal
returns-clause-legal g c = let core = c.self.invariant.1 in let near = c.if-writer-self.false in let is = read _ _ _ _ _ core near c.index-counters.ensures in
    let was = c.index-counters.result.now in
    subst (λ s. MovesOn s (event.Put c.args.writer c.args.item, reply.Put (Ok was.accepted_count)) record {
      shape = c.self.inside.shape;
      writers = set c.self.inside.writers.items c.args.writer (record was { accepted_count = was.accepted_count + 1 });
      queue =
          c.try_push_back.new.self.items;
    }) c.self.view_is
    (put_legal _ _ _ core c.args.writer c.args.item was _ near is
    (not_false _ c.if-not-counters.false) c.if-counters.false c.if-number-ge-MAX_ITEMS.false c.if-number-counters.false
    (ap (λ (b : Buffer (Queued g.row.T.Denot)). b.items) c.in-Ok.ensures.ok))
