use Rattle.std.proofs.Common.{◌≡◌, ℕ, ◌<◌, ◌≤◌, List, get_or}
use Rattle.kmc_lists.specs.Listed.{Listed}
use Rattle.kmc_dump.specs.Full.{IsFull}
use Rattle.kmc_dump.specs.Lanes.{Gets, Sends}
use Rattle.kmc_dump.specs.declared.lane.Filler.{Filler}
use Rattle.kmc_dump.specs.declared.lane.Tray.{Tray}
use Rattle.kmc_dump.specs.declared.ranges.Ranges.{Ranges}
use Rattle.kmc_dump.proofs.output.compare_ends.Given as goal

-- the lanes from this one on are as they were, and what came to the trays before is what was sent on
abbrev pub invariant-loop-lane : goal.invariant-loop-lane
invariant-loop-lane g l = record {
  fillers : (i : ℕ) (d : Filler g.row.W.Denot) → l.lane ≤ i → get_or l.fillers i d ≡ get_or l.initial.fillers i d;
  trays : (i : ℕ) (e : Tray g.row.W.Denot) → l.lane ≤ i → get_or l.trays i e ≡ get_or l.initial.trays i e;
  gets : (line : List ℕ × ℕ → List ℕ) (r : Ranges) (lists : List Listed) (i : ℕ) (d : Filler g.row.W.Denot) (e : Tray g.row.W.Denot) → i < l.lane
      → Sends (IsFull line r lists) (get_or l.initial.fillers i d) → Gets (IsFull line r lists) (get_or l.initial.trays i e);
}
