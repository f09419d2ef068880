use Rattle.std.proofs.Common.{◌≡◌, ℕ, ◌<◌, length, slice_get, Some}
use Rattle.kmc_partqueue.proofs.reader.ReaderSeat.all_totals.Given as goal

abbrev pub invariant-loop-lane : goal.invariant-loop-lane
invariant-loop-lane g l =
    (length l.counts ≡ 16) × ((w : ℕ) → w < l.lane → (t : ℕ) × (slice_get l.self.totals w ≡ Some (Some t)) × (slice_get l.counts w ≡ Some t))
