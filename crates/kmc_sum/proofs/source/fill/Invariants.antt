use Rattle.std.proofs.Common.{◌≡◌, ◌-◌, length}
use Rattle.kmc_sum.specs.Source.{unread, IsRoom, GoesOn}
use Rattle.kmc_sum.proofs.source.fill.Given as goal

-- what was read stands behind what was there
abbrev pub invariant-loop-room : goal.invariant-loop-room
invariant-loop-room g l = record {
  room : IsRoom l.room;
  front : l.room.from ≡ 0;
  lines : l.room.lines ≡ l.initial.room.lines;
  kept : l.reader.failures ≡ l.initial.reader.failures;
  goes : GoesOn (g.R.Read.remaining l.initial.reader.inner) (g.R.Read.remaining l.reader.inner) (unread l.initial.room) (unread l.room);
}

abbrev pub decreases-loop-room : goal.decreases-loop-room
decreases-loop-room g l = length l.room.bytes.items - l.room.to
