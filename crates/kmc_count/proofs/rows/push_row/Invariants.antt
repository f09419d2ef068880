use Rattle.std.proofs.Common.{◌-◌, ◌≤◌, map, take}
use Rattle.kmc_base.specs.Record.{codes_in}
use Rattle.kmc_base.specs.Strands.{keys}
use Rattle.kmc_record.specs.RecordKeys.{Gains}
use Rattle.kmc_count.proofs.rows.push_row.Given as goal

abbrev pub invariant-loop-left : goal.invariant-loop-left
invariant-loop-left g l = record {
  some : 1 ≤ l.left;
  most : l.left ≤ l.count;
  gains : Gains l.form.rule.k l.bits (map g.W.PackedKmer.number l.initial.items.items) (map g.W.PackedKmer.number l.items.items)
      (keys l.form.rule.strands l.form.rule.k (take l.symbols (codes_in l.bytes))) (l.count - l.left);
}

abbrev pub decreases-loop-left : goal.decreases-loop-left
decreases-loop-left g l = l.left
