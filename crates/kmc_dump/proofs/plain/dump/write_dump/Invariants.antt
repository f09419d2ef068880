use Rattle.std.proofs.Common.{◌≡◌, ◌≤◌, length, take}
use Rattle.kmc_lists.specs.Line.{text_of}
use Rattle.kmc_device.specs.Device.{WritesOut}
use Rattle.kmc_dump.proofs.plain.dump.write_dump.Given as goal

-- the lines so far are out but for those that are gathered
abbrev pub invariant-loop-word : goal.invariant-loop-word
invariant-loop-word g l = record {
  within : l.filled ≤ length l.room;
  kept : l.writer.failures ≡ l.initial.writer.failures;
  out : WritesOut (g.W.Write.contents l.initial.writer.inner) (g.W.Write.contents l.writer.inner) (text_of (take l.word-index l.pairs)) (take l.filled l.room);
}
