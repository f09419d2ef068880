use Rattle.std.proofs.Common.{◌≡◌, ◌+◌, ◌*◌, ◌/◌, ◌%◌, map, refl, sym, arith}
use Rattle.std.proofs.lemmas.Nat.{div-add-mod'}
use Rattle.kmc_count.proofs.Bundled.{items_gain, bundles_gain, both_gain}
use Rattle.kmc_count.proofs.rows.share_row.Goals as goal

pub returns-in_ok-push_row-2 : goal.returns-in_ok-push_row-2
returns-in_ok-push_row-2 g c =
    let k = c.args.form.rule.k in
    let f = c.args.form.bits in
    let u = c.args.form.bundle in
    let num = g.W.PackedKmer.number in
    let parts : c.args.count ≡ c.args.count / u * u + c.args.count % u = sym (div-add-mod' c.args.count u) in
    both_gain k f u _ _ _ _ _ _ _ _ _ _ parts
    (bundles_gain k f u (map num c.args.items.now.items) _ _ _ _ _ refl c.in_ok-push_row.ensures)
    (items_gain k f u _ _ (map num c.push_row-2.new.items.items) _ _ c.in_ok-push_row-2.ensures)

pub returns-else-left-gt0 : goal.returns-else-left-gt0
returns-else-left-gt0 g c =
    let k = c.args.form.rule.k in
    let f = c.args.form.bits in
    let u = c.args.form.bundle in
    let num = g.W.PackedKmer.number in
    let parts : c.args.count ≡ c.args.count / u * u = omega (arith, div-add-mod' c.args.count u, c.if-left-gt0.false) in
    bundles_gain k f u (map num c.args.items.now.items) _ _ _ _ c.args.count parts c.in_ok-push_row.ensures
