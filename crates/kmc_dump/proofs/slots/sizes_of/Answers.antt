use Rattle.std.proofs.Common.{ap, ◌<◌, ◌/◌, ◌^◌, length, arith}
use Rattle.std.proofs.lemmas.Grind.{common_steps}
use Rattle.kmc_dump.proofs.Gathered.{all_there}
use Rattle.kmc_dump.proofs.slots.sizes_of.Goals as goal

pub add_list-requires-clause-inside : goal.add_list-requires-clause-inside
add_list-requires-clause-inside g c = λ k d inside.
    omega (
      arith,
      all_there
          (λ p. p.0 / 2 ^ c.args.shift < c.args.slots) c.args.lists.now c.requires.inside.inside c.loop-list.list-index c.list-item.result c.loop-list-test.true c.list-item.is k d inside,
      ap length c.deref_mut.ensures.value,
      c.loop-list.invariant.long,
    )

pub loop-list-init : goal.loop-list-init
loop-list-init g c = grind (arith, common_steps)

pub loop-list-preserved : goal.loop-list-preserved
loop-list-preserved g c = grind (arith, common_steps)

pub returns : goal.returns
returns g c = grind (arith, common_steps)
