use Rattle.std.proofs.Common.{◌≡◌, ◌+◌, length, arith, ◌∙◌}
use Rattle.kmc_device.specs.Lemmas.Devices.{on_err}
use Rattle.kmc_slice_files.proofs.Reading.{block_came, short_came, some_came, some_given}
use Rattle.kmc_slice_files.proofs.read.read_body.Goals as goal

pub returns-in_err-end-clause-held : goal.returns-in_err-end-clause-held
returns-in_err-end-clause-held g c =
    let inv = c.loop-left.invariant.came in
    on_err c.from_residual.result _ (some_given _ _ _ inv.0 c.in_err-end.ensures.given.0 c.loop-left.out.items c.args.out.now.items _
    c.resize.new.self.len c.len-from.result c.min-block.result _
    inv.3 c.in_err-end.ensures.given.1 inv.2 (c.len-from.ensures ∙ c.loop-left.out.ok.0) c.args.out.now.ok.0 c.in-Ok.ensures.len
    (omega (arith, c.min-block.ensures)))

pub returns-then-end-from-clause-fault : goal.returns-then-end-from-clause-fault
returns-then-end-from-clause-fault g c =
    short_came _ _ _ c.args.out.now.items c.loop-left.invariant.came.0 _ _ _ _ c.loop-left.left _ c.min-block.result _ _ c.loop-left.invariant.came.1
    c.loop-left.invariant.came.2 c.loop-left.invariant.came.3 (c.len-from.ensures ∙ c.loop-left.out.ok.0)
    (c.as_mut_slice.ensures.value ∙ c.in-Ok.ensures.items) (omega (arith, c.min-block.ensures)) c.in_ok-end.ensures.ok.2 c.if-end-from.true
    (c.in_ok-end.ensures.all (omega (arith, c.fill_behind.auto.room, c.as_mut_slice.ensures.len, c.in-Ok.ensures.len, c.if-end-from.true)))

pub returns-then-end-from-clause-held : goal.returns-then-end-from-clause-held
returns-then-end-from-clause-held g c =
    some_came _ _ _ c.args.out.now.items c.loop-left.invariant.came.0 _ _ _ _ c.loop-left.left _ c.min-block.result _ _ c.loop-left.invariant.came.1
    c.loop-left.invariant.came.2 c.loop-left.invariant.came.3 (c.len-from.ensures ∙ c.loop-left.out.ok.0)
    (c.as_mut_slice.ensures.value ∙ c.in-Ok.ensures.items) (omega (arith, c.min-block.ensures)) c.in_ok-end.ensures.ok.2 _
    c.resize.new.self.len _ c.args.out.now.ok.0 c.in-Ok.ensures.len (omega (arith, c.min-block.ensures))

pub loop-left-preserved : goal.loop-left-preserved
loop-left-preserved g c =
    let inv = c.loop-left.invariant in
    let wide : length c.fill_behind.new.room ≡ c.len-from.result + c.min-block.result = omega
    (arith, c.fill_behind.auto.room, c.as_mut_slice.ensures.len, c.in-Ok.ensures.len) in
    let full : c.in_ok-end.end ≡ c.len-from.result + c.min-block.result = omega (arith, c.if-end-from.false, c.in_ok-end.ensures.ok.1, wide) in
    record {
      same = c.in_ok-end.ensures.kept ∙ inv.same;
      came = block_came _ _ _ c.args.out.now.items inv.came.0 _ _ _ _ c.loop-left.left _ c.min-block.result _ _ inv.came.1 inv.came.2 inv.came.3
          (c.len-from.ensures ∙ c.loop-left.out.ok.0) (c.as_mut_slice.ensures.value ∙ c.in-Ok.ensures.items) (omega (arith, c.min-block.ensures))
          c.in_ok-end.ensures.ok.2 c.resize.new.self.len _ full (omega (arith, wide, full)) (omega (arith, c.in-Ok.ensures.len, full));
    }
