use Rattle.std.proofs.Common.{◌≡◌, ◌≤◌, ◌-◌, length, take}
use Rattle.kmc_slice_files.specs.Writes.{IsBinWritten}
use Rattle.kmc_slice_files.proofs.frame.write_bin.Given as goal

-- the front that is done is out
abbrev pub invariant-loop-done : goal.invariant-loop-done
invariant-loop-done g l = record {
  inside : l.done ≤ length l.body;
  few : l.frames ≤ l.done;
  same : l.writer.failures ≡ l.initial.writer.failures;
  out : IsBinWritten l.bin (take l.done l.body) l.frames (g.W.Write.contents l.initial.writer.inner) (g.W.Write.contents l.writer.inner);
}

abbrev pub decreases-loop-done : goal.decreases-loop-done
decreases-loop-done g l = length l.body - l.done
