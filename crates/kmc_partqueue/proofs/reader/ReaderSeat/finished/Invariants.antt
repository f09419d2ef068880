use Rattle.std.proofs.Common.{◌≡◌, ℕ, ◌<◌, Some, slice_get}
use Rattle.kmc_partqueue.proofs.reader.ReaderSeat.finished.Given as goal

abbrev pub invariant-loop-lane : goal.invariant-loop-lane
invariant-loop-lane g l = (w : ℕ) → w < l.lane → (t : ℕ) × (slice_get l.self.totals w ≡ Some (Some t))
