use Rattle.std.proofs.Common.{set, refl, arith}
use Rattle.kmc_count.proofs.RowsSoFar.{settle_more}
use Rattle.kmc_count.proofs.Waits.{one_place, set_place}
use Rattle.kmc_count.proofs.rows.settle.Goals as goal

pub overflow_add-waiting : goal.overflow_add-waiting
overflow_add-waiting g c =
    let cs = c.loop-from.waiting in
    let from = c.loop-from.from in
    let h = c.loop-from.invariant.settled in
    let one = one_place (set cs from 0) c.place_below-below.result in
    let all = set_place (λ _. 1) cs from 0 (omega (arith, h.places.wide, c.loop-from.invariant.inside)) in
    omega (arith, one, all, h.places.few)

pub loop-from-preserved : goal.loop-from-preserved
loop-from-preserved g c =
    let form = c.args.form in
    let below = c.place_below-below in
    record {
      behind = below.ensures.shared;
      inside = omega (arith, below.ensures.from, c.loop-from.invariant.inside);
      settled = settle_more form.rule.strands form.rule.k form.bits form.bundle c.args.key _ _ _ _ _ _ _ c.loop-from.waiting _ c.loop-from.from below.result _
          below.ensures.from (omega (arith, c.loop-from.invariant.inside)) refl below.ensures.word refl below.ensures.none c.in_ok-push_between.ensures
          c.loop-from.invariant.settled;
    }
