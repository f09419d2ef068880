use Rattle.std.proofs.Common.{◌≢◌, ◌<◌, ℕ}
use Rattle.std.specs.Prelude.{slice_index_or}
use Rattle.kmc_uses.proofs.look_up.shown_of.Given as goal

abbrev pub invariant-loop-listed : goal.invariant-loop-listed
invariant-loop-listed l = (i : ℕ) (d : _) → i < l.listed-index → (slice_index_or l.pairs i d).0 ≢ l.word
