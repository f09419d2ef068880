use Rattle.std.proofs.Common.{map, take}
use Rattle.kmc_count.specs.Tables.{TakesIn}
use Rattle.kmc_count.proofs.adding.add_items.Given as goal

-- the items so far are added
abbrev pub invariant-loop-item : goal.invariant-loop-item
invariant-loop-item g l =
    TakesIn l.form.rule.k l.form.bits l.initial.table (map g.W.PackedKmer.number l.initial.over.items) l.table (map g.W.PackedKmer.number l.over.items)
    (take l.item-index (map g.W.PackedKmer.number l.added))
