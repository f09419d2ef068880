use Rattle.std.proofs.Common.{ap, arith}
use Rattle.kmc_device.specs.Device.{Watched}
use Rattle.test_support.specs.declared.devices.NarrowWriter.{NarrowWriter}
use Rattle.kmc_slice_files.specs.Lemmas.Fresh.{fresh_more, one_more}
use Rattle.test_slices.proofs.cuts.fresh_writers.Goals as goal

pub loop-preserved : goal.loop-preserved
loop-preserved c = record {
  many = omega (arith, one_more c.loop.writers.items c.push.new.self.items c.new-in-loop.result c.in_ok-push.ensures.items, c.loop.invariant.many);
  fresh = fresh_more c.loop.writers.items c.push.new.self.items c.new-in-loop.result c.in_ok-push.ensures.items
      (ap (λ (w : Watched NarrowWriter). w.failures) c.new-in-loop.ensures) c.loop.invariant.fresh;
}
