use Rattle.std.proofs.Common.{◌%◌, get_or, refl, arith}
use Rattle.std.proofs.lemmas.Result.{on_ok_weaker}
use Rattle.kmc_count.proofs.RowsSoFar.{row_more, rows_begin, rows_end}
use Rattle.kmc_count.proofs.Waits.{one_place}
use Rattle.kmc_count.proofs.rows.push_rows.Goals as goal

pub loop-next-init : goal.loop-next-init
loop-next-init g c =
    let form = c.args.form in
    rows_begin form.rule.strands form.rule.k form.bits form.bundle _ _ c.args.keys.now _ refl

pub overflow_add-waiting : goal.overflow_add-waiting
overflow_add-waiting g c =
    let one = one_place c.settle.new.waiting (get_or c.args.keys.now c.loop-next.next-index 0 % 64) in
    omega (arith, one, c.in_ok-settle.ensures.count, c.loop-next.invariant.count, c.loop-next-test.true)

pub loop-next-preserved : goal.loop-next-preserved
loop-next-preserved g c =
    let form = c.args.form in
    row_more form.rule.strands form.rule.k form.bits form.bundle _ _ c.args.keys.now _ _ _ _ _ _ _ _ _ _ _ c.loop-next-test.true refl
    c.shared_symbols-shared.ensures.alike c.shared_symbols-shared.ensures.second (c.requires.long c.loop-next.next-index 0 c.loop-next-test.true) c.in_ok-settle.ensures refl (omega arith) c.loop-next.invariant

pub returns : goal.returns
returns g c =
    let form = c.args.form in
    on_ok_weaker c.settle-2.result
    (λ settled. rows_end form.rule.strands form.rule.k form.bits form.bundle _ _ c.args.keys.now _ _ _ _ _ _ _ _ form.rule.within.0
    (omega (arith, c.loop-next-test.false)) settled c.loop-next.invariant)
    c.settle-2.ensures
