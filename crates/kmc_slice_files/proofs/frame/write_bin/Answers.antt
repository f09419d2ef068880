use Rattle.std.proofs.Common.{◌≤◌, ◌^◌, ◌+◌, length, take, arith, ◌∙◌}
use Rattle.kmc_device.specs.Lemmas.Devices.{on_err}
use Rattle.kmc_slice_files.proofs.Framing.{bin_more, bin_begun, block_at, block_is, block_long}
use Rattle.kmc_slice_files.proofs.frame.write_bin.Goals as goal

pub returns-in_err-write_frame-clause-front : goal.returns-in_err-write_frame-clause-front
returns-in_err-write_frame-clause-front g c =
    let body = c.args.body.now in
    let done = c.loop-done.done in
    let long = block_long body done c.min-more.result (omega (arith, c.min-more.ensures)) in
    on_err c.from_residual.result _ (bin_begun c.args.bin (take done body) (block_at body done c.min-more.result) c.loop-done.frames _ _ _
    (omega (arith, long, c.min-more.ensures, c.loop-done-test.true)) (omega (arith, long, c.min-more.ensures)) c.loop-done.invariant.out
    c.in_err-write_frame.ensures.front)

pub loop-done-preserved : goal.loop-done-preserved
loop-done-preserved g c =
    let inv = c.loop-done.invariant in
    let body = c.args.body.now in
    let more = c.min-more.result in
    let some : 1 ≤ more = omega (arith, c.min-more.ensures, c.loop-done-test.true) in
    let few : more ≤ 2 ^ 20 = omega (arith, c.min-more.ensures) in
    let within : c.loop-done.done + more ≤ length body = omega (arith, c.min-more.ensures, inv.inside) in
    record {
      inside = within;
      few = omega (arith, some, inv.few);
      same = c.in_ok-write_frame.ensures.kept ∙ inv.same;
      out = bin_more c.args.bin body (block_at body c.loop-done.done more) c.loop-done.done more c.loop-done.frames _ _ _ some few within inv.out
          c.in_ok-write_frame.ensures.ok (block_is body c.loop-done.done more)
          (block_long body c.loop-done.done more (omega (arith, c.min-more.ensures)));
    }
