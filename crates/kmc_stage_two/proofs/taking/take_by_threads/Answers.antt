use Rattle.std.proofs.Common.{arith}
use Rattle.kmc_stage_two.specs.Lemmas.ManyBodies.{texts}
use Rattle.kmc_stage_two.proofs.taking.take_by_threads.Goals as goal

pub returns : goal.returns
returns g c =
    let a = c.args in
    c.all_made.ensures a.counting.now.rule.strands a.counting.now.rule.k a.counting.now.limits a.counting.now.asked (texts a.bodies.now)
    (λ i d inside. (c.in_ok-rows.ensures.each i d (omega (arith, inside, c.in_ok-rows.ensures.len))).1.met)
