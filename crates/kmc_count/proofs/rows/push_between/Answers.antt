use Rattle.std.proofs.Common.{◌≡◌, ◌+◌, ◌-◌, ◌*◌, ◌%◌, ◌^◌, take, sym, ap, ◌∙◌, arith}
use Rattle.std.proofs.Math.Nat.{mul-add}
use Rattle.std.proofs.lemmas.Result.{on_ok_weaker}
use Rattle.std.specs.Int.{bytes_high_first}
use Rattle.std.specs.List.{sum_by}
use Rattle.kmc_base.specs.Record.{codes_in}
use Rattle.kmc_base.specs.Strands.{keys}
use Rattle.kmc_count.specs.Waiting.{front_worth}
use Rattle.kmc_count.proofs.Fronts.{front_grows}
use Rattle.kmc_count.proofs.rows.push_between.Goals as goal

pub returns : goal.returns
returns g c =
    let rule = c.args.form.rule in
    let begin = c.saturating_sub-begin.result in
    let x = c.args.key in
    let m = c.args.count in
    on_ok_weaker c.share_row.result
    (λ gains. record {
      each = λ h.
          let from = front_worth rule.strands rule.k h x c.args.from in
          let more = sum_by h (keys rule.strands rule.k (take (c.args.to - begin) (codes_in c.high_bytes_first-bytes.result))) in
          let bytes : more ≡ sum_by h (keys rule.strands rule.k (take (c.args.to - begin) (codes_in (bytes_high_first 16 (x * 2 ^ (2 * begin) % 2 ^ 128))))) =
          ap (λ t. sum_by h (keys rule.strands rule.k (take (c.args.to - begin) (codes_in t)))) c.high_bytes_first-bytes.ensures in
          let grown : front_worth rule.strands rule.k h x c.args.to ≡ from + more =
          front_grows rule.strands rule.k h x c.args.from c.args.to begin rule.within.0 c.requires.order c.requires.inside
          (omega (arith, c.if-to-k.false)) c.saturating_sub-begin.ensures ∙ ap (λ t. from + t) (sym bytes) in
          omega (arith, gains.each h, ap (λ t. m * t) grown, mul-add m from more);
      fit = gains.fit;
      bundles_fit = gains.bundles_fit;
    })
    c.share_row.ensures
