use Rattle.std.proofs.Common.{◌<◌, length, ◌∙◌, arith}
use Rattle.std.proofs.lemmas.List.{length-set}
use Rattle.kmc_device.specs.Device.{Watched}
use Rattle.kmc_slice_files.specs.Files.{header_bytes}
use Rattle.kmc_slice_files.proofs.Framing.{same_failures, writer_failed}
use Rattle.kmc_slice_files.proofs.Each.{zero_below, writer_got, writer_begun}
use Rattle.kmc_slice_files.proofs.files.begin_files.Goals as goal

pub returns-in-Err-clause-begun : goal.returns-in-Err-clause-begun
returns-in-Err-clause-begun g c =
    writer_begun (λ (w : Watched g.row.W.Denot). g.W.Write.contents w.inner) (header_bytes c.args.shape (length c.args.writers.now)) c.loop-s.s
    _ c.loop-s.writers c.index-writers-s.result c.write_header.new.writer (omega (arith, c.loop-s-test.true, c.loop-s.invariant.wide))
    c.loop-s.invariant.got (length c.args.writers.now) c.in-Err.ensures.front

pub returns-in-Err-clause-failed : goal.returns-in-Err-clause-failed
returns-in-Err-clause-failed g c =
    writer_failed (λ (w : Watched g.row.W.Denot). g.W.Write.contents w.inner) c.loop-s.writers c.index-writers-s.result c.write_header.new.writer
    c.loop-s.s (omega (arith, c.loop-s-test.true, c.loop-s.invariant.wide)) _ c.loop-s.invariant.same c.in-Err.ensures.failed

pub loop-s-preserved : goal.loop-s-preserved
loop-s-preserved g c =
    let inv = c.loop-s.invariant in
    let s = c.loop-s.s in
    let inside : s < length c.loop-s.writers = omega (arith, c.loop-s-test.true, inv.wide) in
    record {
      counted = length-set c.loop-s.counts s 0 ∙ inv.counted;
      none = zero_below c.loop-s.counts s (omega (arith, c.loop-s-test.true, inv.counted)) inv.none;
      wide = length-set c.loop-s.writers s c.write_header.new.writer ∙ inv.wide;
      same = same_failures (λ (w : Watched g.row.W.Denot). g.W.Write.contents w.inner) c.loop-s.writers c.index-writers-s.result
          c.write_header.new.writer s inside c.in-Ok.ensures.kept ∙ inv.same;
      got = writer_got (λ (w : Watched g.row.W.Denot). g.W.Write.contents w.inner) (header_bytes c.args.shape (length c.args.writers.now)) s _
          c.loop-s.writers c.index-writers-s.result c.write_header.new.writer inside inv.got c.in-Ok.ensures.ok;
    }
