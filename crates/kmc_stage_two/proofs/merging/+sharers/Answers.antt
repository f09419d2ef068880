use Rattle.std.proofs.Common.{IfOk, map, subst, arith}
use Rattle.std.proofs.lemmas.Result.{IfOk-weaker}
use Rattle.kmc_stage_two.specs.Shares.{IsDumpOfShare}
use Rattle.kmc_stage_two.proofs.merging.+sharers.Goals as goal

-- ---- the two sides

pub back-list_share-requires : goal.back-list_share-requires
back-list_share-requires g t c κs within =
    let r = c.requires in
    (omega arith, (within.0, (within.1.0, (within.1.1, (assumption, (assumption, (r.0, (assumption, (r.1, (r.2, r.3))))))))))

pub back-returns : goal.back-returns
back-returns g t c = c.list_share.ensures

pub fn::list_share::back+FnOnce::call_once-back-requires : goal.fn::list_share::back+FnOnce::call_once-back-requires
fn::list_share::back+FnOnce::call_once-back-requires g t c κs within =
    let r = c.requires.1.1.1 in
    (omega arith, (within.0, (within.1.0, (within.1.1, (r.1.0, (r.1.1, (r.1.2, (r.1.3, r.0))))))))

pub front-list_share-requires : goal.front-list_share-requires
front-list_share-requires g t c κs within =
    let r = c.requires in
    (omega arith, (within.0, (within.1.0, (within.1.1, (assumption, (assumption, (r.0, (assumption, (r.1, (r.2, r.3))))))))))

pub fn::list_share::front+FnOnce::call_once-front-requires : goal.fn::list_share::front+FnOnce::call_once-front-requires
fn::list_share::front+FnOnce::call_once-front-requires g t c κs within =
    let r = c.requires.1.1.1 in
    (omega arith, (within.0, (within.1.0, (within.1.1, (r.1.0, (r.1.1, (r.1.2, (r.1.3, r.0))))))))

pub front-returns : goal.front-returns
front-returns g t c = c.list_share.ensures

-- ---- the whole

pub list_in_turn-requires-clause-wide : goal.list_in_turn-requires-clause-wide
list_in_turn-requires-clause-wide g t c = c.requires.wide

pub list_in_turn-requires-clause-lists : goal.list_in_turn-requires-clause-lists
list_in_turn-requires-clause-lists g t c = c.requires.lists

pub list_in_turn-requires-clause-share : goal.list_in_turn-requires-clause-share
list_in_turn-requires-clause-share g t c = c.requires.share

pub returns-then-share-le1 : goal.returns-then-share-le1
returns-then-share-le1 g t c = c.list_in_turn.ensures

pub halves-requires-clause-sorted : goal.halves-requires-clause-sorted
halves-requires-clause-sorted g t c = c.requires.lists.sorted

pub halves-requires-clause-wide : goal.halves-requires-clause-wide
halves-requires-clause-wide g t c = omega arith

pub halves-requires-clause-parts : goal.halves-requires-clause-parts
halves-requires-clause-parts g t c = omega arith

pub join-first-requires-after_bounds : goal.join-first-requires-after_bounds
join-first-requires-after_bounds g t c κs within =
    let r = c.requires in
    let h = c.halves.ensures in (
      (omega arith, (λ a h. h, (λ a h. h, (λ a h. h, ((assumption, r.wide, r.lists, h.front), (assumption, assumption, assumption, assumption)))))),
      (omega arith, (λ a h. h, (λ a h. h, (λ a h. h, ((assumption, r.wide, r.lists, h.back), (assumption, assumption, assumption, assumption)))))),
    )

pub both_shares-requires-clause-front : goal.both_shares-requires-clause-front
both_shares-requires-clause-front g t c = IfOk-weaker c.join-first.result.0 _ _ (λ e is. is.is.same) c.join-first.ensures.first

pub both_shares-requires-clause-back : goal.both_shares-requires-clause-back
both_shares-requires-clause-back g t c = IfOk-weaker c.join-first.result.1 _ _ (λ e is. is.is.same) c.join-first.ensures.second

pub returns : goal.returns
returns g t c =
    let a = c.args in
    let k = a.form.rule.k in
    let lists = map (λ v. map g.W.PackedKmer.number v.items) a.lists.now in
    let h = c.halves.ensures in
    let whole = c.both_shares.ensures a.form.bits a.limits c.halves.result.0 c.halves.result.1 lists h.next h.front h.back c.join-first.ensures.first
    c.join-first.ensures.second in
    subst (λ n. IfOk c.both_shares.result (IsDumpOfShare k a.form.bits a.limits n a.share.last lists)) h.first
    (subst (λ n. IfOk c.both_shares.result (IsDumpOfShare k a.form.bits a.limits c.halves.result.0.first n lists)) h.last whole)
