use Rattle.std.proofs.Common.{◌/◌, ◌<◌, ◌^◌, map, sym, subst}
use Rattle.std.specs.List.Sorted.{IsPermutation}
use Rattle.std.proofs.lemmas.List.Elements.{All-filter}
use Rattle.std.proofs.lemmas.List.Sorted.{All-permutation}
use Rattle.kmc_base.specs.Weights.{items, AreItems}
use Rattle.kmc_count.specs.Dump.{IsDump}
use Rattle.kmc_count.specs.Merge.{joined}
use Rattle.kmc_count.specs.Occurrences.{weight_of}
use Rattle.kmc_lists.specs.Listed.{pairs_of}
use Rattle.kmc_stage_two.specs.Shares.{has_word_from}
use Rattle.kmc_stage_two.proofs.ShareDumps.{part_dump}
use Rattle.kmc_stage_two.proofs.merging.list_part.Goals as goal

pub tally-requires-clause-fit : goal.tally-requires-clause-fit
tally-requires-clause-fit g c =
    let num = g.W.PackedKmer.number in
    let a = c.args in
    let lists = map (λ v. map num v.items) a.lists.now in
    let t = has_word_from (2 ^ a.form.bits) a.share.first a.share.last in
    let moved = subst (λ ns. IsPermutation ns (map num c.merge_lists.new.items.items)) c.in_ok-gather_items.ensures c.merge_lists.ensures.moved in
    let fit = All-permutation (λ n. n / 2 ^ a.form.bits < 4 ^ a.form.rule.k) _ _ moved
    (All-filter t (λ n. n / 2 ^ a.form.bits < 4 ^ a.form.rule.k) (joined lists) c.requires.lists.fit) in
    subst (λ ns. AreItems a.form.rule.k a.form.bits (map num ns)) (sym c.deref.ensures.value) fit

pub returns : goal.returns
returns g c =
    let num = g.W.PackedKmer.number in
    let a = c.args in
    let k = a.form.rule.k in
    let f = a.form.bits in
    let lists = map (λ v. map num v.items) a.lists.now in
    let t = has_word_from (2 ^ f) a.share.first a.share.last in
    let moved = subst (λ ns. IsPermutation ns (map num c.merge_lists.new.items.items)) c.in_ok-gather_items.ensures c.merge_lists.ensures.moved in
    let dump = subst (λ ns. IsDump (weight_of (items k f (map num ns))) a.limits (pairs_of c.tally.new.pairs)) c.deref.ensures.value c.in_ok-tally.ensures.dump in
    part_dump k f a.share.first a.share.last a.limits lists (map num c.merge_lists.new.items.items) c.tally.new.pairs c.requires.lists.fit moved
    c.in_ok-tally.ensures.takes dump
