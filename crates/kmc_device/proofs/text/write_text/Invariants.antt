use Rattle.std.proofs.Common.{length, ◌-◌, ◌≡◌, ◌≤◌, take}
use Rattle.std.specs.Io.KnownBytes.{Appends}
use Rattle.kmc_device.proofs.text.write_text.Given as goal

-- the front that is done is out
abbrev pub invariant-loop-done : goal.invariant-loop-done
invariant-loop-done g l = (l.done ≤ length l.text) × (l.writer.failures ≡ l.initial.writer.failures)
    × Appends (g.W.Write.contents l.initial.writer.inner) (g.W.Write.contents l.writer.inner) (take l.done l.text)

abbrev pub decreases-loop-done : goal.decreases-loop-done
decreases-loop-done g l = length l.text - l.done
