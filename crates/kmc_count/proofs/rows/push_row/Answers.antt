use Rattle.std.proofs.Common.{◌≡◌, ◌-◌, ◌*◌, ◌%◌, ◌^◌, ◌<◌, ◌≤◌, arith}
use Rattle.std.proofs.lemmas.Nat.{one_shl}
use Rattle.kmc_base.specs.Lemmas.Weights.{pow_two_some}
use Rattle.kmc_record.specs.Lemmas.Gaining.{gains_words, gains_more}
use Rattle.kmc_count.proofs.Fronts.{front_words}
use Rattle.kmc_count.proofs.rows.push_row.Goals as goal

pub loop-left-preserved : goal.loop-left-preserved
loop-left-preserved g c =
    let k = c.args.form.rule.k in
    let f = c.args.form.bits in
    let most = 1 * 2 ^ f % 2 ^ 64 in
    let full : most ≡ 2 ^ f = one_shl f 64 (omega (arith, c.args.form.few)) in
    let once : 1 ≤ most = omega (arith, full, pow_two_some f) in
    let fits : most ≤ 2 ^ f = omega (arith, full) in
    let more : most < c.loop-left.left = c.loop-left-test.true in
    record {
      some = omega (arith, more);
      most = omega (arith, c.loop-left.invariant.most);
      gains = gains_more k f _ _ _ _ (c.args.count - c.loop-left.left) most _ (omega (arith, more, c.loop-left.invariant.most)) c.loop-left.invariant.gains
          (gains_words k f _ _ _ most once fits (front_words c.args.form.rule.strands k c.args.symbols c.args.bytes.now) c.in_ok-push_record.ensures);
    }

pub returns : goal.returns
returns g c =
    let k = c.args.form.rule.k in
    let f = c.args.form.bits in
    let full : 1 * 2 ^ f % 2 ^ 64 ≡ 2 ^ f = one_shl f 64 (omega (arith, c.args.form.few)) in
    let fits : c.loop-left.left ≤ 2 ^ f = omega (arith, full, c.loop-left-test.false) in
    gains_more k f _ _ _ _ (c.args.count - c.loop-left.left) c.loop-left.left c.args.count
    (omega (arith, c.loop-left.invariant.most)) c.loop-left.invariant.gains
    (gains_words k f _ _ _ c.loop-left.left c.loop-left.invariant.some fits (front_words c.args.form.rule.strands k c.args.symbols c.args.bytes.now)
    c.in_ok-push_record-2.ensures)
