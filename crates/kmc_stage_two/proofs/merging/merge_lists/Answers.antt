use Rattle.std.proofs.lemmas.List.Sorted.{IsPermutation-map, IsPermutation-trans}
use Rattle.kmc_stage_two.proofs.merging.merge_lists.Goals as goal

pub returns-clause-moved : goal.returns-clause-moved
returns-clause-moved g c =
    IsPermutation-trans _ _ _ (IsPermutation-map g.W.PackedKmer.number _ _ c.sort_by_key.ensures.permutation) c.sort.ensures.moved
