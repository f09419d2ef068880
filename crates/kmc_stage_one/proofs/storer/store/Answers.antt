use Rattle.std.proofs.Common.{sym, ap, subst, ◌∙◌}
use Rattle.kmc_partqueue.specs.SameSeats.{items_of}
use Rattle.kmc_partqueue.specs.Taken.{IsNext}
use Rattle.kmc_partqueue.specs.Lemmas.SameSeats.{same_reader}
use Rattle.kmc_store.specs.Bodies.{AreAdded}
use Rattle.kmc_stage_one.proofs.storer.store.Goals as goal

pub loop-preserved : goal.loop-preserved
loop-preserved g c =
    let bins = c.args.shard.bins in let inv = c.loop.invariant in let a = c.in_ok-absorb-in-Some-2.ensures.ok in
    let next = subst (IsNext c.loop.seat c.take_part.new.s) c.in-Some-2.is c.in_ok-part.ensures.next in (
      same_reader c.args.shard.seat c.loop.seat c.take_part.new.s inv.0 c.take_part.ensures.seat,
      a.shape ∙ inv.1,
      subst (AreAdded bins.shape bins.bodies c.absorb.new.bins.bodies) (sym next)
          (c.absorbed_part_is_added.ensures bins.shape bins.bodies c.loop.bins c.absorb.new.bins (items_of c.loop.seat.got) c.in-Some-2.part inv.2 a),
    )

pub returns-in-None-2-clause-done : goal.returns-in-None-2-clause-done
returns-in-None-2-clause-done g c =
    let bins = c.args.shard.bins in let inv = c.loop.invariant in
    let next = subst (IsNext c.loop.seat c.take_part.new.s) c.in-None-2.is c.in_ok-part.ensures.next in record {
      seat = same_reader c.args.shard.seat c.loop.seat c.take_part.new.s inv.0 c.take_part.ensures.seat;
      ended = next.1;
      shaped = inv.1;
      added = subst (AreAdded bins.shape bins.bodies c.loop.bins.bodies) (sym (ap items_of next.0)) inv.2;
    }
