use Rattle.std.proofs.Common.{◌≡◌, ℕ, ◌<◌, length, slice_index}
use Rattle.kmc_split.proofs.plain.signatures.codes_of.Given as goal

abbrev pub invariant-loop-i : goal.invariant-loop-i
invariant-loop-i l = ((j : ℕ) → j < l.i → slice_index l.codes j ≡ slice_index l.w j) × ((j : ℕ) → j < l.i → slice_index l.w j < 4) × (length l.codes ≡ 64)
