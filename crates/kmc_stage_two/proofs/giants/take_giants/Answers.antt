use Rattle.std.proofs.Common.{◌+◌, All, sym, ap, subst, ◌∙◌, arith}
use Rattle.std.proofs.lemmas.List.Elements.{All-nil, All-push}
use Rattle.kmc_stage_two.specs.Bodies.{IsListAt}
use Rattle.kmc_stage_two.specs.Lemmas.ManyBodies.{texts}
use Rattle.kmc_stage_two.specs.Lemmas.PlacedLists.{listed_at}
use Rattle.kmc_stage_two.proofs.giants.take_giants.Goals as goal

pub loop-taken-init : goal.loop-taken-init
loop-taken-init g c =
    let made = c.in_ok-lists.ensures in (
      made.len,
      made.capacity,
      subst (All (λ p. IsListAt c.args.counting.now.rule.strands c.args.counting.now.rule.k c.args.counting.now.limits c.args.counting.now.asked (texts c.args.bodies.now) p.place p.list)) (sym made.items)
          (All-nil (λ p. IsListAt c.args.counting.now.rule.strands c.args.counting.now.rule.k c.args.counting.now.limits c.args.counting.now.asked (texts c.args.bodies.now) p.place p.list)),
    )

pub push_reserved-requires : goal.push_reserved-requires
push_reserved-requires g c = omega (arith, c.loop-taken.invariant.0, c.loop-taken.invariant.1, c.loop-taken-test.true)

pub loop-taken-preserved : goal.loop-taken-preserved
loop-taken-preserved g c =
    let rule = c.args.counting.now.rule in
    let l = c.args.counting.now.limits in
    let asked = c.args.counting.now.asked in
    let bodies = c.args.bodies.now in
    let list = c.in_ok-list.list in
    let room = c.loop-taken.invariant in
    let pushed = c.push_reserved.ensures in (
      pushed.len ∙ ap (λ n. n + 1) room.0,
      omega (arith, pushed.capacity, room.1),
      subst (All (λ p. IsListAt rule.strands rule.k l asked (texts bodies) p.place p.list)) (sym pushed.items)
          (All-push (λ p. IsListAt rule.strands rule.k l asked (texts bodies) p.place p.list) c.loop-taken.lists.items _ room.2
          (listed_at rule.strands rule.k l asked bodies c.in-Some.place c.index-bodies-place.result c.deref.result.now list c.in-Some.ensures
          c.index-bodies-place.is c.deref.ensures.value c.in_ok-list.ensures.list c.in_ok-list.ensures.ok c.in_ok-list.ensures.judged)),
    )
