use Rattle.std.proofs.Common.{◌≡◌, ◌^◌, get_or}
use Rattle.std.specs.List.{All}
use Rattle.std.specs.Io.KnownBytes.{Appends}
use Rattle.kmc_dump.specs.Full.{IsFull}
use Rattle.kmc_dump.specs.Lanes.{Gets, SameTrays}
use Rattle.kmc_dump.specs.Ranges.{range_text}
use Rattle.kmc_dump.specs.Rooms.{HasRoomForRange}
use Rattle.kmc_dump.proofs.output.write_all.Given as goal

-- the text of the ranges so far is out, where what came to the trays is that of its ranges
abbrev pub invariant-loop-range : goal.invariant-loop-range
invariant-loop-range g l = record {
  room : HasRoomForRange l.filling.ranges.now.widest (g.F.PairForm.most l.filling.form.now l.filling.ranges.now.k g.C.CountWidth.most_digits) l.own;
  rings : SameTrays l.initial.trays l.trays;
  out : All (Gets (IsFull (g.F.PairForm.bytes l.filling.form.now) l.filling.ranges.now l.filling.lists.now)) l.trays
      → (l.writer.failures ≡ l.initial.writer.failures)
      × Appends (g.D.Write.contents l.initial.writer.inner) (g.D.Write.contents l.writer.inner)
      (range_text (g.F.PairForm.bytes l.filling.form.now) l.filling.ranges.now.k (2 ^ l.filling.ranges.now.shift) (get_or l.filling.ranges.now.bounds.items 0 0)
      (get_or l.filling.ranges.now.bounds.items l.range 0) l.filling.lists.now);
}
