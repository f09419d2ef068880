use Rattle.std.proofs.Common.{map, sym, subst, arith}
use Rattle.std.specs.List.Sorted.{IsSorted}
use Rattle.std.specs.Ordering.{nat_cmp}
use Rattle.std.proofs.lemmas.Bool.Decides.{nat_tests}
use Rattle.kmc_stage_two.proofs.Shares.{list_rises}
use Rattle.kmc_stage_two.proofs.share.middle_of.Goals as goal

pub items_in-items-requires : goal.items_in-items-requires
items_in-items-requires g c =
    let num = g.W.PackedKmer.number in
    let some = c.if-not-is_empty.ensures in
    record {
      sorted = subst (λ l. IsSorted nat_cmp (map num l)) (sym c.deref.ensures.value)
          (list_rises num c.args.lists.now c.requires.sorted 0 c.index-lists-0.result (grind (arith, nat_tests)) c.index-lists-0.is);
    }
