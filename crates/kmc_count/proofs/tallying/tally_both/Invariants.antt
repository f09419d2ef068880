use Rattle.std.proofs.Common.{◌+◌, length, map}
use Rattle.kmc_base.specs.Weights.{items}
use Rattle.kmc_count.specs.Bundles.{weight_of_both}
use Rattle.kmc_count.proofs.Walk.{IsWalked}
use Rattle.kmc_count.proofs.tallying.tally_both.Given as goal

-- the pairs are the runs of the words before what is left of both lists
abbrev pub invariant-loop-word : goal.invariant-loop-word
invariant-loop-word g l = record {
  takes : g.L.PairList.takes l.rule.k l.pairs;
  walked : IsWalked l.rule.k l.bits l.bundle l.limits
      (weight_of_both l.bundle (items l.rule.k l.bits (map g.W.PackedKmer.number l.singles)) (items l.rule.k l.bits (map g.W.PackedKmer.number l.bundles)))
      (g.L.PairList.pairs l.pairs) (map g.W.PackedKmer.number l.few) (map g.W.PackedKmer.number l.many);
}

abbrev pub decreases-loop-word : goal.decreases-loop-word
decreases-loop-word g l = length l.few + length l.many

abbrev pub invariant-loop-few : goal.invariant-loop-few
invariant-loop-few g l = record {
  takes : g.L.PairList.takes l.rule.k l.pairs;
  walked : IsWalked l.rule.k l.bits l.bundle l.limits
      (weight_of_both l.bundle (items l.rule.k l.bits (map g.W.PackedKmer.number l.singles)) (items l.rule.k l.bits (map g.W.PackedKmer.number l.bundles)))
      (g.L.PairList.pairs l.pairs) (map g.W.PackedKmer.number l.few) (map g.W.PackedKmer.number l.many);
}

abbrev pub decreases-loop-few : goal.decreases-loop-few
decreases-loop-few g l = length l.few
