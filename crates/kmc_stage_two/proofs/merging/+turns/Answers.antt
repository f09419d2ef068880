use Rattle.std.proofs.Common.{map, sym, ◌∙◌, arith}
use Rattle.std.proofs.lemmas.Result.{IfOk-weaker, IfOk-from_err}
use Rattle.kmc_stage_two.proofs.ShareDumps.{shares_joined}
use Rattle.kmc_stage_two.proofs.merging.+turns.Goals as goal

pub list_part-requires-clause-wide : goal.list_part-requires-clause-wide
list_part-requires-clause-wide g t c = c.requires.wide

pub list_part-requires-clause-lists : goal.list_part-requires-clause-lists
list_part-requires-clause-lists g t c = c.requires.lists

pub returns-then-share-le1 : goal.returns-then-share-le1
returns-then-share-le1 g t c = c.list_part.ensures

pub halves-requires-clause-sorted : goal.halves-requires-clause-sorted
halves-requires-clause-sorted g t c = c.requires.lists.sorted

pub halves-requires-clause-wide : goal.halves-requires-clause-wide
halves-requires-clause-wide g t c = omega arith

pub halves-requires-clause-parts : goal.halves-requires-clause-parts
halves-requires-clause-parts g t c = omega arith

pub list_in_turn-requires : goal.list_in_turn-requires
list_in_turn-requires g t c κs within =
    let r = c.requires in
    (omega arith, (within.0, (within.1, (r.wide, (r.lists, c.halves.ensures.front)))))

pub returns-in_err-pairs : goal.returns-in_err-pairs
returns-in_err-pairs g t c = IfOk-from_err _ _ c.from_residual.ensures.0

pub list_in_turn-requires-2 : goal.list_in_turn-requires-2
list_in_turn-requires-2 g t c κs within =
    let r = c.requires in
    (omega arith, (within.0, (within.1, (r.wide, (r.lists, c.halves.ensures.back)))))

pub returns-in_err-more : goal.returns-in_err-more
returns-in_err-more g t c = IfOk-from_err _ _ c.from_residual-in_err-more.ensures.0

pub joined-requires : goal.joined-requires
joined-requires g t c = c.in_ok-more.ensures.is.same ∙ sym c.in_ok-pairs.ensures.is.same

pub returns : goal.returns
returns g t c =
    let a = c.args in
    let lists = map (λ v. map g.W.PackedKmer.number v.items) a.lists.now in
    let h = c.halves.ensures in
    IfOk-weaker c.joined.result _ _ (λ e is. shares_joined a.form.rule.k a.form.bits a.limits lists a.share.first a.share.last c.halves.result.0 c.halves.result.1
    c.in_ok-pairs.pairs c.in_ok-more.more e h.first h.next h.last h.front h.back c.in_ok-pairs.ensures c.in_ok-more.ensures is) c.joined.ensures
