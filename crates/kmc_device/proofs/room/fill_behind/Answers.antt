use Rattle.std.proofs.Common.{arith, refl, ◌∙◌}
use Rattle.std.proofs.KnownBytes.{Consumes-kept}
use Rattle.kmc_device.specs.Lemmas.Devices.{on_err}
use Rattle.kmc_device.proofs.Rooms.{none_came, came_then}
use Rattle.kmc_device.proofs.room.fill_behind.Goals as goal

pub loop-end-init : goal.loop-end-init
loop-end-init g c = record { above = omega arith; inside = c.requires; same = refl; came = none_came _ _ _ }

pub loop-end-preserved : goal.loop-end-preserved
loop-end-preserved g c =
    let inv = c.loop-end.invariant in
    let read = c.in_ok-next.ensures in
    record {
      above = omega (arith, inv.above, read.ok.0);
      inside = read.ok.1;
      same = read.kept ∙ inv.same;
      came = came_then _ _ _ _ _ _ _ _ _ inv.came read.ok.2;
    }

pub returns-then-next-end-clause-ok : goal.returns-then-next-end-clause-ok
returns-then-next-end-clause-ok g c =
    let inv = c.loop-end.invariant in
    let read = c.in_ok-next.ensures in
    (omega (arith, inv.above, read.ok.0), read.ok.1, came_then _ _ _ _ _ _ _ _ _ inv.came read.ok.2)

pub returns-in_err-next-clause-given : goal.returns-in_err-next-clause-given
returns-in_err-next-clause-given g c =
    let came = c.loop-end.invariant.came in
    on_err c.from_residual.result _ (came.bytes, Consumes-kept _ _ _ came.bytes came.gave c.in_err-next.ensures.bytes)
