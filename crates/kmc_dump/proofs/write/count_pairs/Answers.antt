use Rattle.std.proofs.Common.{arith}
use Rattle.std.proofs.lemmas.Grind.{common_steps}
use Rattle.kmc_dump.proofs.Gathered.{pairs_left}
use Rattle.kmc_dump.proofs.write.count_pairs.Goals as goal

pub loop-list-preserved : goal.loop-list-preserved
loop-list-preserved g c = grind (arith, common_steps)

pub returns-in_default-clause-most : goal.returns-in_default-clause-most
returns-in_default-clause-most g c =
    let left = pairs_left c.args.lists.now c.loop-list.list-index c.list-item.result c.loop-list-test.true c.list-item.is in
    omega (arith, left, c.loop-list.invariant, c.len.ensures, c.in_default.ensures)

pub returns-clause-total : goal.returns-clause-total
returns-clause-total g c = grind (arith, common_steps)
