use Rattle.std.proofs.Common.{◌≡◌, ℕ, ◌<◌, Some, slice_index}
use Rattle.kmc_base.specs.Words.{code_of}
use Rattle.kmc_base.proofs.stretch.write_codes.Given as goal

abbrev pub invariant-loop-i : goal.invariant-loop-i
invariant-loop-i l = (j : ℕ) → j < l.i → Some (slice_index l.codes j) ≡ code_of (slice_index l.bytes j)
