use Rattle.std.proofs.Common.{◌≡◌, ◌+◌, ℕ, ◌≤◌, ◌-◌, List, length, map, take}
use Rattle.kmc_base.specs.Record.{IsBodyOf}
use Rattle.kmc_record.specs.RecordKeys.{IsTaken}
use Rattle.kmc_count.proofs.taking.take_body.Given as goal

-- whole records up to the offset, and all of them taken in; no items where all are numbers
abbrev pub invariant-loop-offset : goal.invariant-loop-offset
invariant-loop-offset g l = record {
  inside : l.offset ≤ length l.body;
  records : (ss : List (List ℕ)) × IsBodyOf l.form.rule.k ss (take l.offset l.body)
      × IsTaken l.form.rule.strands l.form.rule.k l.form.bits l.numbers.items (map g.W.PackedKmer.number l.items.items) ss;
  alone : l.form.rule.k + 3 ≤ l.short → l.items ≡ l.initial.items;
}

abbrev pub decreases-loop-offset : goal.decreases-loop-offset
decreases-loop-offset g l = length l.body - l.offset
