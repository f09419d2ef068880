use Rattle.std.proofs.Common.{◌≡◌, ℕ, ◌+◌, ◌-◌, ◌*◌, ◌≤◌, ◌^◌, map, ap, sym, subst, arith}
use Rattle.kmc_base.specs.declared.key_rule.KeyRule.{KeyRule}
use Rattle.kmc_base.specs.Lemmas.Powers.{all_slots, pow_quad}
use Rattle.kmc_count.specs.Bodies.{IsDumpOfBody}
use Rattle.kmc_lists.specs.Listed.{Listed, pairs_of}
use Rattle.kmc_stage_two.specs.Shares.{IsDumpOfShare}
use Rattle.kmc_stage_two.specs.Lemmas.Judged.{behind_there}
use Rattle.kmc_stage_two.proofs.ShareDumps.{all_words}
use Rattle.kmc_stage_two.proofs.shared.list_by_threads.Goals as goal

pub returns-clause-ok : goal.returns-clause-ok
returns-clause-ok g c =
    let a = c.args in
    let form = c.new-form.result in
    let k = form.rule.k in
    let f = form.bits in
    let last : ℕ = 2 ^ 128 - 1 in
    let lists = map (λ v. map g.W.PackedKmer.number v.items) c.in_ok-lists.lists.items in
    let same : 2 * (k - 0) ≡ 2 * k = omega arith in
    let power : 2 ^ (2 * (k - 0)) ≡ 2 ^ (2 * k) = ap (λ n. 2 ^ n) same in
    let wide : 4 ^ k ≤ last + 1 = omega (arith, pow_quad k, power, all_slots k 0 (omega arith) form.rule.within.1) in
    let share = subst (λ ls. IsDumpOfShare k f a.counting.now.limits 0 last (map (λ v. map g.W.PackedKmer.number v.items) ls) c.in_ok-pairs.pairs) c.deref.ensures.value
    c.in_ok-pairs.ensures in
    subst (λ (r : KeyRule). IsDumpOfBody r.strands r.k a.counting.now.limits a.body.now (pairs_of c.shrink.new.self)) c.new-form.ensures.rule
    (subst (λ (p : Listed). IsDumpOfBody form.rule.strands k a.counting.now.limits a.body.now (pairs_of p)) (sym c.shrink.ensures)
    (all_words k f a.counting.now.limits lists form.rule.strands a.body.now last c.in_ok-pairs.pairs c.in_ok-lists.ensures.0 wide share))

pub returns-clause-judged : goal.returns-clause-judged
returns-clause-judged g c =
    let a = c.args in
    behind_there a.counting.now.asked c.bin_behind-asked.result a.place a.body.now c.bin_behind-asked.ensures.behind c.in_ok-lists.ensures.1
