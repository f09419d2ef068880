use Rattle.std.proofs.Common.{arith, rules, length-drop}
use Rattle.kmc_device.specs.Lemmas.Devices.{rest_is, block_out, front_out, none_out}
use Rattle.kmc_device.proofs.text.write_text.Goals as goal

pub returns-in-Ok-eq0-clause-front : goal.returns-in-Ok-eq0-clause-front
returns-in-Ok-eq0-clause-front g c =
    none_out _ _ _ c.args.text.now c.loop-done.done c.in-Ok-eq0.field-0 _ c.in-Ok-eq0.field-0-test c.loop-done.invariant.2 c.in-Ok-eq0.ensures.bytes

pub loop-done-preserved : goal.loop-done-preserved
loop-done-preserved g c =
    let bound = rw (rest_is c.args.text.now c.loop-done.done) at c.in-Ok.ensures.bound in (
      omega (arith, length-drop c.loop-done.done c.args.text.now, bound),
      search rules,
      block_out _ _ _ c.args.text.now c.loop-done.done c.in-Ok.n c.loop-done.invariant.2 c.in-Ok.ensures.bytes,
    )

pub returns-in-Err-clause-front : goal.returns-in-Err-clause-front
returns-in-Err-clause-front g c = front_out _ _ _ c.args.text.now c.loop-done.done c.loop-done.invariant.2 c.in-Err.ensures.bytes
