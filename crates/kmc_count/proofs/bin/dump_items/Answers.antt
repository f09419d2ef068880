use Rattle.std.proofs.Common.{map, subst, sym, ◌/◌, ◌^◌, ◌<◌}
use Rattle.std.proofs.lemmas.List.Sorted.{All-permutation}
use Rattle.std.proofs.lemmas.Result.{on_ok_weaker}
use Rattle.kmc_base.specs.Weights.{items, AreItems}
use Rattle.kmc_count.specs.Bundles.{weight_of_both}
use Rattle.kmc_count.specs.Dump.{IsDump}
use Rattle.kmc_count.proofs.Bundled.{both_moved, bundled_dump}
use Rattle.kmc_count.proofs.bin.dump_items.Goals as goal

pub tally_both-requires-clause-fit : goal.tally_both-requires-clause-fit
tally_both-requires-clause-fit g c =
    let k = c.args.form.rule.k in
    let f = c.args.form.bits in
    subst (λ ns. AreItems k f (map g.W.PackedKmer.number ns)) (sym c.deref.ensures.value)
    (All-permutation (λ n. n / 2 ^ f < 4 ^ k) _ _ c.sort.ensures.moved c.requires.fit)

pub tally_both-requires-clause-bundles_fit : goal.tally_both-requires-clause-bundles_fit
tally_both-requires-clause-bundles_fit g c =
    let k = c.args.form.rule.k in
    let f = c.args.form.bits in
    subst (λ ns. AreItems k f (map g.W.PackedKmer.number ns)) (sym c.deref-2.ensures.value)
    (All-permutation (λ n. n / 2 ^ f < 4 ^ k) _ _ c.sort-2.ensures.moved c.requires.bundles_fit)

pub returns-clause-ok : goal.returns-clause-ok
returns-clause-ok g c = λ body are.
    let rule = c.args.form.rule in
    let f = c.args.form.bits in
    let u = c.args.form.bundle in
    let num = g.W.PackedKmer.number in
    let moved = both_moved rule.strands rule.k f u body _ _ _ _ c.sort.ensures.moved c.sort-2.ensures.moved are in
    on_ok_weaker c.tally_both.result
    (λ dump. bundled_dump rule.strands rule.k f u body _ _ c.args.limits.now _ moved
    (subst (λ ns. IsDump (weight_of_both u (items rule.k f (map num c.sort.new.words.items)) (items rule.k f (map num ns))) c.args.limits.now
    (g.L.PairList.pairs c.tally_both.new.pairs)) c.deref-2.ensures.value
    (subst (λ ns. IsDump (weight_of_both u (items rule.k f (map num ns)) (items rule.k f (map num c.deref-2.result.now))) c.args.limits.now
    (g.L.PairList.pairs c.tally_both.new.pairs)) c.deref.ensures.value dump)))
    c.tally_both.ensures.dump
