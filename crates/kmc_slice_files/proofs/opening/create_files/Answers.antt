use Rattle.std.proofs.Common.{ap, arith}
use Rattle.kmc_device.specs.Device.{Watched}
use Rattle.kmc_slice_files.specs.Lemmas.Fresh.{fresh_more, one_more}
use Rattle.kmc_slice_files.proofs.opening.create_files.Goals as goal

pub loop-s-preserved : goal.loop-s-preserved
loop-s-preserved g c = record {
  many = omega (arith, one_more c.loop-s.writers.items c.push.new.self.items c.new.result c.in-Ok-push.ensures.items, c.loop-s.invariant.many);
  fresh = fresh_more c.loop-s.writers.items c.push.new.self.items c.new.result c.in-Ok-push.ensures.items
      (ap (λ (w : Watched g.row.T-File.Denot). w.failures) c.new.ensures) c.loop-s.invariant.fresh;
}
