use Rattle.std.proofs.Common.{◌<◌, length, get_or, ◌∙◌, arith}
use Rattle.std.proofs.lemmas.List.{length-set}
use Rattle.kmc_device.specs.Device.{Watched}
use Rattle.kmc_slice_files.specs.Frames.{end_bytes}
use Rattle.kmc_slice_files.proofs.Framing.{same_failures, writer_failed}
use Rattle.kmc_slice_files.proofs.Each.{writer_got, writer_begun}
use Rattle.kmc_slice_files.proofs.files.end_files.Goals as goal

pub returns-in-Err-clause-failed : goal.returns-in-Err-clause-failed
returns-in-Err-clause-failed g c =
    writer_failed (λ (w : Watched g.row.W.Denot). g.W.Write.contents w.inner) c.loop-s.writers c.index-writers-s.result c.end_file.new.writer
    c.loop-s.s (omega (arith, c.loop-s-test.true, c.loop-s.invariant.wide)) _ c.loop-s.invariant.same c.in-Err.ensures.failed

pub loop-s-preserved : goal.loop-s-preserved
loop-s-preserved g c =
    let inside : c.loop-s.s < length c.loop-s.writers = omega (arith, c.loop-s-test.true, c.loop-s.invariant.wide) in
    record {
      wide = length-set c.loop-s.writers c.loop-s.s c.end_file.new.writer ∙ c.loop-s.invariant.wide;
      same = same_failures (λ (w : Watched g.row.W.Denot). g.W.Write.contents w.inner) c.loop-s.writers c.index-writers-s.result
          c.end_file.new.writer c.loop-s.s inside c.in-Ok.ensures.kept ∙ c.loop-s.invariant.same;
      got = writer_got (λ (w : Watched g.row.W.Denot). g.W.Write.contents w.inner) (λ t. end_bytes (get_or c.args.counts.now t 0)) c.loop-s.s _
          c.loop-s.writers c.index-writers-s.result c.end_file.new.writer inside c.loop-s.invariant.got c.in-Ok.ensures.ok;
    }

pub returns-in-Err-clause-begun : goal.returns-in-Err-clause-begun
returns-in-Err-clause-begun g c =
    writer_begun (λ (w : Watched g.row.W.Denot). g.W.Write.contents w.inner) (λ t. end_bytes (get_or c.args.counts.now t 0)) c.loop-s.s _
    c.loop-s.writers c.index-writers-s.result c.end_file.new.writer (omega (arith, c.loop-s-test.true, c.loop-s.invariant.wide))
    c.loop-s.invariant.got (length c.args.writers.now) c.in-Err.ensures.front
