use Rattle.std.proofs.Common.{◌/◌, ◌<◌, ◌^◌, length, map, nat_lt, ap, sym, subst, arith, rules}
use Rattle.std.proofs.lemmas.Nat.{pow_pos}
use Rattle.std.proofs.lemmas.List.Sorted.{IsPartitionPoint-from_clause, IsPartitionedBy-ltb}
use Rattle.kmc_lists.specs.Listed.{Listed}
use Rattle.kmc_lists.specs.Ordered.{Climbs, IsCutOfList}
use Rattle.kmc_lists.proofs.Cuts.{slots_climb, cut}
use Rattle.kmc_lists.proofs.kmer_list.KmerList.below.Goals as goal

pub returns : goal.returns
returns g c =
    let num = g.W.PackedKmer.number in
    let ws = c.self.inside.words.items in
    let cs = map g.C.CountWidth.count c.self.inside.counts.items in
    let w = 2 ^ c.args.shift in
    let slot = c.args.slot in
    let long = c.self.invariant.long in
    let pos : 0 < w = pow_pos c.args.shift in
    let up = slots_climb num w pos ws cs long (subst (λ (v : Listed). Climbs v.packed) (sym c.self.view_is) c.requires.rise) in
    let parted = IsPartitionedBy-ltb (λ x. num x / w) ws slot up in
    let here = sym c.deref.ensures.value in
    let point = IsPartitionPoint-from_clause (λ x. nat_lt (num x / w) slot) _ _ c.partition_point.ensures.partitioned (rw here at parted)
    (λ a r q k. search rules) in
    subst (λ (v : Listed). IsCutOfList w slot c.partition_point.result v.packed) c.self.view_is
    (cut num w pos ws cs long slot c.partition_point.result (omega (arith, c.partition_point.ensures.bound, ap length c.deref.ensures.value))
    (rw c.deref.ensures.value at point))
