use Rattle.std.proofs.Common.{ℕ, List}
use Rattle.rtrb.specs.Ring.{SameConsumer}
use Rattle.kmc_lists.specs.Listed.{Listed}
use Rattle.kmc_dump.specs.Full.{IsFull}
use Rattle.kmc_dump.specs.Lanes.{Gets}
use Rattle.kmc_dump.specs.declared.ranges.Ranges.{Ranges}
use Rattle.kmc_dump.proofs.output.take_full.Given as goal

-- what came so far is more than before
abbrev pub invariant-loop : goal.invariant-loop
invariant-loop g l = record {
  ring : SameConsumer l.initial.tray.full l.tray.full;
  gets : (line : List ℕ × ℕ → List ℕ) (r : Ranges) (lists : List Listed) → Gets (IsFull line r lists) l.tray → Gets (IsFull line r lists) l.initial.tray;
}
