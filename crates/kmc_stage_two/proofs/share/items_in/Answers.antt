use Rattle.std.proofs.Common.{◌/◌, ◌-◌, ◌<◌, ◌^◌, length, drop, take, map, nat_lt, nat_le, ap, sym, ◌∙◌, arith, rules, length-drop, take_all}
use Rattle.std.proofs.lemmas.Nat.{pow_pos}
use Rattle.std.proofs.lemmas.List.Sorted.{IsPartitionPoint-from_clause, IsPartitionedBy-ltb, IsPartitionedBy-leb, IsNonDecreasingBy-drop}
use Rattle.kmc_stage_two.proofs.Shares.{words_rise, share_is}
use Rattle.kmc_stage_two.proofs.share.items_in.Goals as goal

pub returns : goal.returns
returns g c =
    let num = g.W.PackedKmer.number in
    let xs = c.args.list.now in
    let w = 2 ^ c.args.form.bits in
    let b = c.partition_point-begin.result in
    let pos : 0 < w = pow_pos c.args.form.bits in
    let up = words_rise num w pos xs c.requires.sorted in
    let begin = IsPartitionPoint-from_clause (λ x. nat_lt (num x / w) c.args.share.first) xs b c.partition_point-begin.ensures.partitioned
    (IsPartitionedBy-ltb (λ x. num x / w) xs c.args.share.first up) (λ a r q k. search rules) in
    let rest = take_all (length xs - b) (drop b xs) (omega (arith, length-drop b xs)) in
    let end = IsPartitionPoint-from_clause (λ x. nat_le (num x / w) c.args.share.last) _ _ c.partition_point-end.ensures.partitioned
    (rw (sym rest) at (IsPartitionedBy-leb (λ x. num x / w) (drop b xs) c.args.share.last (IsNonDecreasingBy-drop (λ x. num x / w) b xs up)))
    (λ a r q k. search rules) in
    ap (λ l. map num (take c.partition_point-end.result l)) rest
    ∙ share_is num w c.args.share.first c.args.share.last xs b c.partition_point-end.result c.partition_point-begin.ensures.bound
    (omega (arith, c.partition_point-end.ensures.bound, ap length rest)) begin (rw rest at end)
