use Rattle.std.proofs.Common.{map, sym, subst, arith}
use Rattle.std.specs.List.Sorted.{IsSorted}
use Rattle.std.specs.Ordering.{nat_cmp}
use Rattle.std.proofs.lemmas.Grind.{common_steps}
use Rattle.std.proofs.lemmas.List.Elements.{filter-append}
use Rattle.kmc_stage_two.proofs.Shares.{list_rises}
use Rattle.kmc_stage_two.proofs.share.gather_items.Goals as goal

pub loop-list-init : goal.loop-list-init
loop-list-init g c = grind (arith, common_steps)

pub items_in-requires : goal.items_in-requires
items_in-requires g c =
    let num = g.W.PackedKmer.number in
    record {
      sorted = subst (λ l. IsSorted nat_cmp (map num l)) (sym c.deref.ensures.value)
          (list_rises num c.args.lists.now c.requires.sorted c.loop-list.list-index c.list-item.result c.loop-list-test.true c.list-item.is);
    }

pub loop-list-preserved : goal.loop-list-preserved
loop-list-preserved g c = grind (arith, common_steps, filter-append)

pub returns : goal.returns
returns g c = grind (arith, common_steps)
