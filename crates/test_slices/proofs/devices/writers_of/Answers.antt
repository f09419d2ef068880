use Rattle.std.proofs.Common.{ap, arith}
use Rattle.kmc_device.specs.Device.{Watched}
use Rattle.test_support.specs.declared.devices.NarrowWriter.{NarrowWriter}
use Rattle.kmc_slice_files.specs.Lemmas.Fresh.{fresh_more, one_more}
use Rattle.test_slices.proofs.devices.writers_of.Goals as goal

pub loop-s-preserved : goal.loop-s-preserved
loop-s-preserved c = record {
  many = omega (arith, one_more c.loop-s.writers.items c.push.new.self.items c.new.result c.in_ok-push.ensures.items, c.loop-s.invariant.many);
  fresh = fresh_more c.loop-s.writers.items c.push.new.self.items c.new.result c.in_ok-push.ensures.items
      (ap (λ (w : Watched NarrowWriter). w.failures) c.new.ensures) c.loop-s.invariant.fresh;
}
