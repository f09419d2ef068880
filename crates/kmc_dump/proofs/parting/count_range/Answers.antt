use Rattle.std.proofs.Common.{◌^◌, arith}
use Rattle.std.proofs.lemmas.Grind.{common_steps}
use Rattle.kmc_dump.proofs.Cuts.{cut_length}
use Rattle.kmc_dump.proofs.Gathered.{climbs_there, list_more}
use Rattle.kmc_lists.specs.Ordered.{is_within}
use Rattle.kmc_dump.proofs.parting.count_range.Goals as goal

pub loop-list-init : goal.loop-list-init
loop-list-init g c = grind (arith, common_steps)

pub below-begin-requires-clause-rise : goal.below-begin-requires-clause-rise
below-begin-requires-clause-rise g c = climbs_there c.args.lists.now c.requires.rise c.loop-list.list-index c.list-item.result c.loop-list-test.true c.list-item.is

pub below-end-requires-clause-rise : goal.below-end-requires-clause-rise
below-end-requires-clause-rise g c = climbs_there c.args.lists.now c.requires.rise c.loop-list.list-index c.list-item.result c.loop-list-test.true c.list-item.is

pub overflow_sub-end : goal.overflow_sub-end
overflow_sub-end g c =
    (cut_length (2 ^ c.args.range.shift) c.args.range.from c.args.range.to _ _ c.list-item.result.packed c.args.range.order c.below-begin.ensures c.below-end.ensures).0

pub loop-list-preserved : goal.loop-list-preserved
loop-list-preserved g c =
    let w = 2 ^ c.args.range.shift in
    let long = cut_length w c.args.range.from c.args.range.to _ _ c.list-item.result.packed c.args.range.order c.below-begin.ensures c.below-end.ensures in
    let more = list_more (is_within w c.args.range.from c.args.range.to) c.args.lists.now c.loop-list.list-index c.list-item.result c.loop-list-test.true c.list-item.is in
    omega (arith, long.1, more, c.loop-list.invariant, c.in-Some.ensures.1)

pub returns : goal.returns
returns g c = grind (arith, common_steps)
