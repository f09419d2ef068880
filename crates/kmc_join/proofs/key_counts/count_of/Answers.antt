use Rattle.std.proofs.Common.{◌<◌, length, ap, ◌∙◌, arith}
use Rattle.kmc_join.proofs.KeyOrders.{equal_is, is_found}
use Rattle.kmc_join.proofs.key_counts.count_of.Goals as goal

pub returns-in-Ok : goal.returns-in-Ok
returns-in-Ok c = λ count are.
    let inside : c.in-Ok.place < length c.args.keys.now = omega (arith, c.in-Ok.ensures.bound) in
    are.each c.in-Ok.place inside ∙ ap count (equal_is _ _ (c.in-Ok.ensures.ok _))

pub returns-in-Err : goal.returns-in-Err
returns-in-Err c = λ count are.
    absurd (is_found c.args.keys.now c.args.key.now c.in-Err.field-0 c.requires.sorted c.requires.there c.in-Err.ensures.position)
