use Rattle.std.proofs.Common.{ℕ, ◌≤◌, ◌-◌, List, [], length, map, take}
use Rattle.kmc_base.specs.Record.{IsBodyOf}
use Rattle.kmc_record.specs.RecordKeys.{IsTaken}
use Rattle.kmc_count.proofs.adding.take_and_add.Given as goal

-- whole records up to the offset, and the items come to all their words
abbrev pub invariant-loop-offset : goal.invariant-loop-offset
invariant-loop-offset g l = record {
  inside : l.offset ≤ length l.body;
  taken : (ss : List (List ℕ)) × IsBodyOf l.form.rule.k ss (take l.offset l.body)
      × IsTaken l.form.rule.strands l.form.rule.k l.form.bits [] (map g.W.PackedKmer.number l.items.items) ss;
}

abbrev pub decreases-loop-offset : goal.decreases-loop-offset
decreases-loop-offset g l = length l.body - l.offset
