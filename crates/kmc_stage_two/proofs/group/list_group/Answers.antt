use Rattle.std.proofs.Common.{Vec, Global, ℕ}
use Rattle.std.proofs.lemmas.List.{length-map}
use Rattle.kmc_stage_two.specs.Lemmas.ManyBodies.{texts}
use Rattle.kmc_stage_two.proofs.group.list_group.Goals as goal

pub returns-in-Some-clause-ok : goal.returns-in-Some-clause-ok
returns-in-Some-clause-ok g c =
    let a = c.args in
    (c.in-Some.ensures a.counting.now.rule.strands a.counting.now.rule.k a.counting.now.limits a.counting.now.asked (texts a.bodies.now) (length-map a.bodies.now (λ (b : Vec ℕ Global). b.items)) c.in-Ok.ensures).0

pub returns-in-Some-clause-judged : goal.returns-in-Some-clause-judged
returns-in-Some-clause-judged g c =
    let a = c.args in
    (c.in-Some.ensures a.counting.now.rule.strands a.counting.now.rule.k a.counting.now.limits a.counting.now.asked (texts a.bodies.now) (length-map a.bodies.now (λ (b : Vec ℕ Global). b.items)) c.in-Ok.ensures).1
