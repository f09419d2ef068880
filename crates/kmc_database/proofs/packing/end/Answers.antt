use Rattle.std.proofs.Common.{◌++◌, List, ℕ, subst}
use Rattle.kmc_device.specs.Device.{AppendsFront}
use Rattle.kmc_database.proofs.packing.end.Goals as goal

pub returns-in-Err-flush_with-clause-err : goal.returns-in-Err-flush_with-clause-err
returns-in-Err-flush_with-clause-err g c = record {
  suffix_bytes = c.in-Ok.ensures.ok;
  suffix_kept = c.in-Ok.ensures.kept;
  prefix_front = subst
      (λ (t : List ℕ). AppendsFront (g.W.Write.contents c.args.prefix.now.inner) (g.W.Write.contents c.flush_with-2.new.writer.inner)
      (c.args.table ++ t))
      c.header_bytes.ensures c.in-Err-flush_with.ensures.front;
  prefix_failed = c.in-Err-flush_with.ensures.failed;
}
