use Rattle.std.proofs.Common.{◌-◌}
use Rattle.rtrb.specs.Ring.{SameProducer}
use Rattle.kmc_dump.specs.Full.{IsFull}
use Rattle.kmc_dump.specs.Lanes.{Sends}
use Rattle.kmc_dump.proofs.filling.fill_on.Given as goal

-- what was sent on so far holds the texts of its ranges
abbrev pub invariant-loop-range : goal.invariant-loop-range
invariant-loop-range g l = record {
  ring : SameProducer l.initial.filler.full l.filler.full;
  sends : Sends (IsFull (g.F.PairForm.bytes l.filling.form.now) l.filling.ranges.now l.filling.lists.now) l.initial.filler
      → Sends (IsFull (g.F.PairForm.bytes l.filling.form.now) l.filling.ranges.now l.filling.lists.now) l.filler;
}

abbrev pub decreases-loop-range : goal.decreases-loop-range
decreases-loop-range g l = l.count - l.range
