use Rattle.std.proofs.Common.{◌≡◌, ℕ, ◌<◌, slice_get, Some}
use Rattle.kmc_partqueue.specs.Seats.{ReaderState, AllEnded}
use Rattle.kmc_partqueue.proofs.gather.first_finished.Given as goal

abbrev pub invariant-loop-i : goal.invariant-loop-i
invariant-loop-i g l = (j : ℕ) → j < l.i → (s : ReaderState g.row.T.Denot) → slice_get l.readers j ≡ Some s → ¬ AllEnded s.writers s.totals
