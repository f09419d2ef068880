use Rattle.std.proofs.Common.{◌≡◌, ◌+◌, List, [], ◌∷◌, ◌++◌, All, sym, ap, subst, ◌∙◌, arith}
use Rattle.std.proofs.lemmas.List.Elements.{All-nil, All-push}
use Rattle.std.proofs.lemmas.Result.{IfOk-from_err}
use Rattle.kmc_stage_two.specs.Bodies.{IsListAt}
use Rattle.kmc_stage_two.specs.Lemmas.ManyBodies.{texts}
use Rattle.kmc_stage_two.specs.Lemmas.PlacedLists.{listed_at}
use Rattle.kmc_stage_two.proofs.taking.take_bodies.Goals as goal

one_more : {X : Type 0} (P : X → Type 0) (xs more : List X) (x : X) → more ≡ xs ++ x ∷ [] → All P xs → P x → All P more
one_more P xs more x pushed all here = subst (All P) (sym pushed) (All-push P xs x all here)

pub loop-taken-init : goal.loop-taken-init
loop-taken-init g c =
    let made = c.in_ok-lists.ensures in (
      made.len,
      made.capacity,
      subst (All (λ p. IsListAt c.args.counting.now.rule.strands c.args.counting.now.rule.k c.args.counting.now.limits c.args.counting.now.asked (texts c.args.bodies.now) p.place p.list)) (sym made.items)
          (All-nil (λ p. IsListAt c.args.counting.now.rule.strands c.args.counting.now.rule.k c.args.counting.now.limits c.args.counting.now.asked (texts c.args.bodies.now) p.place p.list)),
    )

pub push_reserved-requires : goal.push_reserved-requires
push_reserved-requires g c = omega (arith, c.loop-taken.invariant.0, c.loop-taken.invariant.1, c.loop-taken-test.true)

pub list_body-requires-clause-most : goal.list_body-requires-clause-most
list_body-requires-clause-most g c = c.requires.most

pub list_body-requires-clause-wide : goal.list_body-requires-clause-wide
list_body-requires-clause-wide g c = c.requires.wide

pub loop-taken-preserved : goal.loop-taken-preserved
loop-taken-preserved g c =
    let rule = c.args.counting.now.rule in
    let l = c.args.counting.now.limits in
    let asked = c.args.counting.now.asked in
    let bodies = c.args.bodies.now in
    let list = c.in_ok-list.list in
    let room = c.loop-taken.invariant in
    let pushed = c.push_reserved.ensures in (
      pushed.len ∙ ap (λ n. n + 1) room.0,
      omega (arith, pushed.capacity, room.1),
      one_more (λ p. IsListAt rule.strands rule.k l asked (texts bodies) p.place p.list) c.loop-taken.lists.items c.push_reserved.new.self.items _ pushed.items
          room.2
          (listed_at rule.strands rule.k l asked bodies c.in-Some.place c.index-bodies-place.result c.deref.result.now list c.in-Some.ensures
          c.index-bodies-place.is c.deref.ensures.value c.in_ok-list.ensures.list c.in_ok-list.ensures.ok c.in_ok-list.ensures.judged),
    )

pub returns-in_err-list : goal.returns-in_err-list
returns-in_err-list g c = IfOk-from_err _ _ c.from_residual-in_err-list.ensures.0
