use Rattle.std.proofs.Common.{map}
use Rattle.kmc_count.proofs.RowsSoFar.{AreRowsSoFar}
use Rattle.kmc_count.proofs.rows.push_rows.Given as goal

-- the words of the records so far are in the lists, or wait
abbrev pub invariant-loop-next : goal.invariant-loop-next
invariant-loop-next g l =
    AreRowsSoFar l.form.rule.strands l.form.rule.k l.form.bits l.form.bundle (map g.W.PackedKmer.number l.initial.items.items)
    (map g.W.PackedKmer.number l.initial.bundles.items) l.keys l.key l.next-index (map g.W.PackedKmer.number l.items.items)
    (map g.W.PackedKmer.number l.bundles.items) l.waiting
