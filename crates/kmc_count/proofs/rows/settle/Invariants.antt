use Rattle.std.proofs.Common.{◌-◌, ◌≤◌, map}
use Rattle.kmc_count.specs.Waiting.{AreSettled}
use Rattle.kmc_count.proofs.rows.settle.Given as goal

-- what ends behind this place went into the lists
abbrev pub invariant-loop-from : goal.invariant-loop-from
invariant-loop-from g l = record {
  behind : l.shared ≤ l.from;
  inside : l.from ≤ 63;
  settled : AreSettled l.form.rule.strands l.form.rule.k l.form.bits l.form.bundle l.key l.from (map g.W.PackedKmer.number l.initial.items.items)
      (map g.W.PackedKmer.number l.initial.bundles.items) l.initial.waiting (map g.W.PackedKmer.number l.items.items)
      (map g.W.PackedKmer.number l.bundles.items) l.waiting;
}

abbrev pub decreases-loop-from : goal.decreases-loop-from
decreases-loop-from g l = l.from - l.shared
