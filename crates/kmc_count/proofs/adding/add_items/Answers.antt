use Rattle.std.proofs.Common.{◌≡◌, ◌/◌, ◌^◌, ◌<◌, [], ◌∷◌, map, get_or, take_all, sym, ap, subst, ◌∙◌, arith}
use Rattle.std.proofs.lemmas.List.{length-map, get_or-map}
use Rattle.kmc_count.specs.Tables.{TakesIn}
use Rattle.kmc_count.proofs.Refused.{refused}
use Rattle.kmc_count.proofs.Tabled.{none_taken, one_more_taken}
use Rattle.kmc_count.proofs.adding.add_items.Goals as goal

pub loop-item-init : goal.loop-item-init
loop-item-init g c = none_taken c.args.form.rule.k c.args.form.bits _ _ c.requires.table

pub add_item-requires-clause-table : goal.add_item-requires-clause-table
add_item-requires-clause-table g c = c.loop-item.invariant.table

pub add_item-requires-clause-fits : goal.add_item-requires-clause-fits
add_item-requires-clause-fits g c =
    let num = g.W.PackedKmer.number in
    let i = c.loop-item.item-index in
    let ns = map num c.args.added.now in
    let at : num c.item-item.result ≡ get_or ns i 0 =
    sym (get_or-map num c.args.added.now i c.item-item.result 0 c.loop-item-test.true ∙ ap num (sym c.item-item.is)) in
    subst (λ n. n / 2 ^ c.args.form.bits < 4 ^ c.args.form.rule.k) (sym at)
    (c.requires.fit i 0 (omega (arith, c.loop-item-test.true, length-map c.args.added.now num)))

pub returns-in_err-add_item : goal.returns-in_err-add_item
returns-in_err-add_item g c = refused _ c.from_residual.result c.from_residual.ensures.0

pub loop-item-preserved : goal.loop-item-preserved
loop-item-preserved g c =
    let num = g.W.PackedKmer.number in
    let i = c.loop-item.item-index in
    let ns = map num c.args.added.now in
    let at : num c.item-item.result ≡ get_or ns i 0 =
    sym (get_or-map num c.args.added.now i c.item-item.result 0 c.loop-item-test.true ∙ ap num (sym c.item-item.is)) in
    one_more_taken c.args.form.rule.k c.args.form.bits _ _ c.loop-item.table (map num c.loop-item.over.items) _ _ ns i
    (omega (arith, c.loop-item-test.true, length-map c.args.added.now num)) c.loop-item.invariant
    (subst (λ n. TakesIn c.args.form.rule.k c.args.form.bits c.loop-item.table (map num c.loop-item.over.items) c.add_item.new.table (map num c.add_item.new.over.items) (n ∷ [])) at
    c.in_ok-add_item.ensures)

pub returns : goal.returns
returns g c =
    let num = g.W.PackedKmer.number in
    let ns = map num c.args.added.now in
    subst (TakesIn c.args.form.rule.k c.args.form.bits c.args.table.now (map num c.args.over.now.items) c.loop-item.table (map num c.loop-item.over.items))
    (take_all c.loop-item.item-index ns (omega (arith, c.loop-item-test.false, length-map c.args.added.now num))) c.loop-item.invariant
