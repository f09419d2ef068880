use Rattle.std.proofs.Common.{ℕ, ◌+◌, refl, subst, ◌∙◌}
use Rattle.kmc_device.specs.Device.{RisesByOne}
use Rattle.kmc_database.proofs.StepExits.{part_refused, refused_since}
use Rattle.kmc_database.proofs.UnpackSoFar.{before_row, begun_with, out_so_far, row_unwritten, so_row}
use Rattle.kmc_database.proofs.unpacking.unpack_part.Goals as goal

pub returns-in_err-found-clause-answer : goal.returns-in_err-found-clause-answer
returns-in_err-found-clause-answer g c = λ s p tr start ends.
    let h = c.args.header.now in
    let part = c.args.part.number in
    let inv = c.loop-row.invariant in
    let now = inv.so s p tr start ends in
    let b = before_row h s part p tr _ _ _ _ c.loop-row.row c.loop-row.above now c.args.part.to ends c.loop-row-test.true in
    let e = c.in_err-found.field-0.0 in
    let lost = c.in_err-found.ensures.cause s p tr now.pairs b in
    part_refused g.R.Read.remaining g.W.Write.contents h s part c.args.part.to p tr c.args.reader.now c.checked_row.new.reader c.checked_row.new.room
    c.args.writer.now c.loop-row.writer c.loop-row.buffer c.from_residual.result e c.from_residual.ensures.1
    (λ first prefix.
    refused_since h s p (g.R.Read.remaining c.checked_row.new.reader.inner) first prefix c.loop-row.reader.failures c.loop-row.writer.failures prefix
    c.args.reader.now.failures c.args.writer.now.failures prefix c.checked_row.new.reader.failures c.loop-row.writer.failures e refl inv.read inv.kept
    (lost.cause first prefix c.loop-row.writer.failures))
    (begun_with h.layout s (part + 1) (part + 1) now.pairs p tr _ lost.rest _ lost.given
    (out_so_far h.layout s (part + 1) (part + 1) p tr _ _ _ _ c.loop-row.row c.loop-row.above now))

pub returns-in-Err-clause-answer : goal.returns-in-Err-clause-answer
returns-in-Err-clause-answer g c = λ s p tr start ends.
    let h = c.args.header.now in
    let part = c.args.part.number in
    let inv = c.loop-row.invariant in
    let now = inv.so s p tr start ends in
    let b = before_row h s part p tr _ _ _ _ c.loop-row.row c.loop-row.above now c.args.part.to ends c.loop-row-test.true in
    let read = c.in_ok-found.ensures.ok s p tr now.pairs b in
    record {
      ok = tt;
      cause = λ first prefix. (
        refl,
        refl,
        c.in_ok-found.ensures.kept ∙ inv.read,
        subst (λ (n : ℕ). RisesByOne n c.put_line.new.writer.failures) inv.kept c.in-Err.ensures.failed,
      );
      begun = row_unwritten h s part p tr _ _ _ _ c.loop-row.row c.loop-row.above now c.in_ok-found.found _ _ _ read c.in-Err.ensures.front;
    }

pub loop-row-preserved : goal.loop-row-preserved
loop-row-preserved g c =
    let h = c.args.header.now in
    let part = c.args.part.number in
    let inv = c.loop-row.invariant in
    record {
      room = c.in_ok-found.ensures.room;
      read = c.in_ok-found.ensures.kept ∙ inv.read;
      kept = c.in-Ok.ensures.kept ∙ inv.kept;
      so = λ s p tr start ends.
          let now = inv.so s p tr start ends in
          let b = before_row h s part p tr _ _ _ _ c.loop-row.row c.loop-row.above now c.args.part.to ends c.loop-row-test.true in
          so_row h s part p tr _ _ _ _ c.loop-row.row c.loop-row.above now c.in_ok-found.found _ _ _ _ c.of_packed-word.result
          (c.in_ok-found.ensures.ok s p tr now.pairs b) c.in_ok-found.ensures.fits c.of_packed-word.ensures c.in-Ok.ensures.ok;
    }
