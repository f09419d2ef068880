use Rattle.std.proofs.Common.{◌-◌, ◌≡◌, length, arith, length-drop}
use Rattle.kmc_device.specs.Lemmas.Lines.{length_put_mid}
use Rattle.kmc_device.proofs.Rooms.{came_once}
use Rattle.kmc_device.proofs.room.read_behind.Goals as goal

pub returns-in-Ok-clause-ok : goal.returns-in-Ok-clause-ok
returns-in-Ok-clause-ok g c =
    let room = c.args.room.now in
    let out = c.read.new.buf in
    let size : length out ≡ length room - c.args.to = omega (arith, c.read.auto.buf, length-drop c.args.to room) in (
      omega arith,
      omega (arith, length_put_mid room out c.args.to (length room - c.args.to) (omega arith) size, c.in-Ok.ensures.bound.0, size),
      came_once _ _ c.args.to c.in-Ok.n room out (omega arith) size c.in-Ok.ensures.bound.0 c.in-Ok.ensures.bytes.0,
    )

pub returns-in-Ok-clause-all : goal.returns-in-Ok-clause-all
returns-in-Ok-clause-all g c = λ e. c.in-Ok.ensures.bytes.1 (omega (arith, e)) (omega (arith, c.read.auto.buf, length-drop c.args.to c.args.room.now))
