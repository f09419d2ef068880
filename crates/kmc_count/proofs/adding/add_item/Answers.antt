use Rattle.std.proofs.Common.{◌≡◌, ◌*◌, ◌/◌, ◌%◌, ◌^◌, ◌<◌, ◌≤◌, ◌++◌, ◌∷◌, [], map, set, get_or, sym, ap, subst, ◌∙◌, arith}
use Rattle.std.proofs.lemmas.List.{map_push}
use Rattle.std.proofs.lemmas.Nat.{one_shl}
use Rattle.kmc_base.specs.Weights.{weighted}
use Rattle.kmc_count.specs.Tables.{TakesIn}
use Rattle.kmc_count.proofs.Refused.{refused}
use Rattle.kmc_count.proofs.Tabled.{counter_begins_anew, counter_grows, small_counter, weight_low}
use Rattle.kmc_count.proofs.adding.add_item.Goals as goal

pub overflow_add-count : goal.overflow_add-count
overflow_add-count g c =
    let f = c.args.form.bits in
    let n = g.W.PackedKmer.number c.args.item in
    let word : c.to_u128-place.result ≡ n / 2 ^ f = c.to_u128-place.ensures ∙ c.without_weight-word.ensures in
    let low = c.requires.table.low c.to_u128-place.result 0 (omega (arith, word, c.requires.fits, c.requires.table.wide)) in
    omega (arith, low, weight_low f n, c.times-times.ensures, small_counter f (omega (arith, c.args.form.few)))

pub returns-in_ok-push : goal.returns-in_ok-push
returns-in_ok-push g c =
    let num = g.W.PackedKmer.number in
    let k = c.args.form.rule.k in
    let f = c.args.form.bits in
    let n = num c.args.item in
    let p = c.to_u128-place.result in
    let t = c.times-times.result in
    let over = map num c.args.over.now.items in
    let word : p ≡ n / 2 ^ f = c.to_u128-place.ensures ∙ c.without_weight-word.ensures in
    let fits : p < 4 ^ k = omega (arith, word, c.requires.fits) in
    let full : 1 * 2 ^ f % 2 ^ 32 ≡ 2 ^ f = one_shl f 32 (omega (arith, c.args.form.few)) in
    let low : t ≤ 2 ^ f = omega (arith, weight_low f n, c.times-times.ensures) in
    let count : c.from-times_before.result ≡ get_or c.args.table.now p 0 = c.from-times_before.ensures in
    let some : 1 ≤ c.from-times_before.result = omega (arith, count, full, low, c.if-count-times.true) in
    let pushed : map num c.push.new.self.items ≡ over ++ weighted f c.from-times_before.result p ∷ [] =
    ap (map num) c.in_ok-push.ensures.items ∙ map_push num c.args.over.now.items c.weighted.result
    ∙ ap (λ m. over ++ m ∷ []) (c.weighted.ensures ∙ ap (weighted f c.from-times_before.result) (sym c.to_u128-place.ensures)) in
    subst (λ new. TakesIn k f c.args.table.now over (set c.args.table.now p t) new (n ∷ [])) (sym pushed)
    (counter_begins_anew k f c.args.table.now over n p t word c.times-times.ensures c.requires.table fits c.from-times_before.result count some low)

pub returns-else-count-times : goal.returns-else-count-times
returns-else-count-times g c =
    let f = c.args.form.bits in
    let n = g.W.PackedKmer.number c.args.item in
    let p = c.to_u128-place.result in
    let word : p ≡ n / 2 ^ f = c.to_u128-place.ensures ∙ c.without_weight-word.ensures in
    let fits : p < 4 ^ c.args.form.rule.k = omega (arith, word, c.requires.fits) in
    let full : 1 * 2 ^ f % 2 ^ 32 ≡ 2 ^ f = one_shl f 32 (omega (arith, c.args.form.few)) in
    counter_grows c.args.form.rule.k f c.args.table.now _ n p c.times-times.result word c.times-times.ensures c.requires.table fits
    (omega (arith, full, c.if-count-times.false))

pub returns-in_err-push : goal.returns-in_err-push
returns-in_err-push g c = refused _ c.from_residual.result c.from_residual.ensures.0
