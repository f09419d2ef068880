use Rattle.std.proofs.Common.{length, ◌-◌, ◌≡◌, ◌≤◌}
use Rattle.kmc_device.specs.Room.{CameBehind}
use Rattle.kmc_device.proofs.room.fill_behind.Given as goal

abbrev pub invariant-loop-end : goal.invariant-loop-end
invariant-loop-end g l = record {
  above : l.to ≤ l.end;
  inside : l.end ≤ length l.room;
  same : l.reader.failures ≡ l.initial.reader.failures;
  came : CameBehind (g.R.Read.remaining l.initial.reader.inner) (g.R.Read.remaining l.reader.inner) l.to l.end l.initial.room l.room;
}

abbrev pub decreases-loop-end : goal.decreases-loop-end
decreases-loop-end g l = length l.room - l.end
