use Rattle.std.proofs.Common.{ℕ, ◌+◌, ◌∙◌, refl, arith}
use Rattle.std.proofs.lemmas.List.Sums.{sum_by_more, sum_by-take-le}
use Rattle.kmc_device.specs.Lemmas.Devices.{on_err, on_err_then, on_ok_then}
use Rattle.kmc_sum.specs.Lemmas.Written.{out_front}
use Rattle.kmc_packer.proofs.Written.{file_front, file_out, table_front, table_more, table_start}
use Rattle.kmc_packer.proofs.table.write_prefix.Goals as goal

pub loop-size-init : goal.loop-size-init
loop-size-init g c = record {
  before = refl;
  kept = refl;
  out = table_start _ c.args.sizes.now c.new-table.result c.new-table.ensures;
}

pub overflow_add-before : goal.overflow_add-before
overflow_add-before g c =
    let sizes = c.args.sizes.now in
    let i = c.loop-size.size-index in
    omega (
      arith,
      c.loop-size.invariant.before,
      sum_by_more (λ (n : ℕ). n) sizes i 0 (omega (arith, c.loop-size-test.true)),
      sum_by-take-le (λ (n : ℕ). n) sizes (i + 1),
      c.requires.parts,
      c.ranges.rows,
    )

pub loop-size-preserved : goal.loop-size-preserved
loop-size-preserved g c =
    let sizes = c.args.sizes.now in
    let i = c.loop-size.size-index in
    let so = c.loop-size.invariant in
    record {
      before = omega (arith, so.before, sum_by_more (λ (n : ℕ). n) sizes i 0 (omega (arith, c.loop-size-test.true)));
      kept = c.in_ok-put.ensures.kept ∙ so.kept;
      out = table_more _ _ _ sizes i c.loop-size.before c.to_le_bytes.result c.loop-size.table c.put.new.self so.before c.to_le_bytes.ensures so.out
          c.in_ok-put.ensures.ok;
    }

pub returns-in_err-put-clause-front : goal.returns-in_err-put-clause-front
returns-in_err-put-clause-front g c =
    let sizes = c.args.sizes.now in
    let i = c.loop-size.size-index in
    on_err _ _ (table_front _ _ c.args.form.now sizes c.args.rows i (omega (arith, c.loop-size-test.true))
    (out_front _ _ _ _ _ c.loop-size.invariant.out c.in_err-put.ensures.front))

pub returns-clause-ok : goal.returns-clause-ok
returns-clause-ok g c =
    let sizes = c.args.sizes.now in
    let i = c.loop-size.size-index in
    on_ok_then c.flush_with.result _ _
    (file_out _ _ _ c.args.form.now sizes c.args.rows i c.loop-size.table c.header_bytes.result
    (omega (arith, c.loop-size-test.false, c.loop-size.auto)) c.header_bytes.ensures c.loop-size.invariant.out)
    c.flush_with.ensures.ok

pub returns-clause-front : goal.returns-clause-front
returns-clause-front g c =
    let sizes = c.args.sizes.now in
    let i = c.loop-size.size-index in
    on_err_then c.flush_with.result _ _
    (file_front _ _ _ c.args.form.now sizes c.args.rows i c.loop-size.table c.header_bytes.result
    (omega (arith, c.loop-size-test.false, c.loop-size.auto)) c.header_bytes.ensures c.loop-size.invariant.out)
    c.flush_with.ensures.front
