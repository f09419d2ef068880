use Rattle.std.proofs.Common.{length, ap, arith, ◌∙◌, rules}
use Rattle.std.proofs.lemmas.Grind.{common_steps}
use Rattle.kmc_device.specs.Lemmas.Devices.{on_err}
use Rattle.kmc_sum.proofs.Rooms.{goes_trans, goes_like, goes_to, goes_kept, goes_behind, shifted, read_on, rewritten_length}
use Rattle.kmc_sum.specs.Source.{unread}
use Rattle.kmc_sum.proofs.source.fill.Goals as goal

pub returns-then-end-room-clause-ok : goal.returns-then-end-room-clause-ok
returns-then-end-room-clause-ok g c =
    let r = c.args.room.now in
    let here = c.loop-room.room in
    let moved = shifted r.bytes c.as_mut_slice.result.now c.shift.new.bytes c.as_mut_slice.ensures.value c.shift.auto.bytes r.from r.to
    c.shift.ensures in
    goes_trans _ _ _ _ _ _ (goes_like _ _ _ _ _ moved c.loop-room.invariant.goes)
    (read_on here.bytes c.as_mut_slice-in-loop-room.result.now c.read_behind.new.room c.as_mut_slice-in-loop-room.ensures.value
    c.read_behind.auto.room _ _ here.from here.to here.to
    c.loop-room.invariant.front (goes_to _ _ _ _ _ _ c.if-end-room.true (goes_behind _ _ _ _ _ _ c.in_ok-end.ensures.ok.2)))

pub loop-room-preserved : goal.loop-room-preserved
loop-room-preserved g c =
    let here = c.loop-room.room in
    let same = rewritten_length here.bytes c.as_mut_slice-in-loop-room.result.now c.read_behind.new.room c.as_mut_slice-in-loop-room.ensures.value
    c.read_behind.auto.room in
    record {
      room = record {
        order = omega (arith, c.loop-room.invariant.front);
        inside = omega (
          arith,
          same,
          c.read_behind.auto.room,
          ap length c.as_mut_slice-in-loop-room.ensures.value,
          c.in_ok-end.ensures.ok.1,
        );
        place = omega (arith, same, c.loop-room.invariant.room.place);
      };
      front = c.loop-room.invariant.front;
      lines = c.loop-room.invariant.lines;
      kept = c.in_ok-end.ensures.kept ∙ c.loop-room.invariant.kept;
      goes = goes_trans _ _ _ _ _ _ c.loop-room.invariant.goes
          (read_on here.bytes c.as_mut_slice-in-loop-room.result.now c.read_behind.new.room c.as_mut_slice-in-loop-room.ensures.value
          c.read_behind.auto.room _ _ here.from here.to c.in_ok-end.end
          c.loop-room.invariant.front (goes_behind _ _ _ _ _ _ c.in_ok-end.ensures.ok.2));
    }

pub returns-in_err-end-clause-lost : goal.returns-in_err-end-clause-lost
returns-in_err-end-clause-lost g c =
    let r = c.args.room.now in
    let here = c.loop-room.room in
    let moved = shifted r.bytes c.as_mut_slice.result.now c.shift.new.bytes c.as_mut_slice.ensures.value c.shift.auto.bytes r.from r.to
    c.shift.ensures in
    on_err c.from_residual.result _ (
      unread here,
      goes_kept _ _ _ _ _ (goes_like _ _ _ _ _ moved c.loop-room.invariant.goes)
          c.in_err-end.ensures.bytes,
    )

pub loop-room-init : goal.loop-room-init
loop-room-init g c = grind (arith, common_steps)

pub returns-in_err-end-clause-room : goal.returns-in_err-end-clause-room
returns-in_err-end-clause-room g c = grind (arith, common_steps)

pub returns-then-end-room-clause-room : goal.returns-then-end-room-clause-room
returns-then-end-room-clause-room g c = grind (arith, common_steps)

pub loop-room-smaller : goal.loop-room-smaller
loop-room-smaller g c = grind (arith, common_steps)

pub returns-clause-ok : goal.returns-clause-ok
returns-clause-ok g c = grind (arith, common_steps)

pub returns-clause-enough : goal.returns-clause-enough
returns-clause-enough g c = search rules
