use Rattle.std.proofs.Common.{All, sym, subst}
use Rattle.std.proofs.lemmas.List.Elements.{All-append}
use Rattle.kmc_stage_two.specs.Bodies.{IsListAt}
use Rattle.kmc_stage_two.specs.Lemmas.ManyBodies.{texts}
use Rattle.kmc_stage_two.proofs.group.take_all.Goals as goal

pub returns : goal.returns
returns g c =
    let a = c.args in
    subst (All (λ p. IsListAt a.counting.now.rule.strands a.counting.now.rule.k a.counting.now.limits a.counting.now.asked (texts a.bodies.now) p.place p.list)) (sym c.in_ok-append.ensures.items)
    (All-append (λ p. IsListAt a.counting.now.rule.strands a.counting.now.rule.k a.counting.now.limits a.counting.now.asked (texts a.bodies.now) p.place p.list) c.in_ok-lists.lists.items c.in_ok-others.others.items
    c.in_ok-lists.ensures c.in_ok-others.ensures)
