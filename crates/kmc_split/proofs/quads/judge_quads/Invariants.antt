use Rattle.std.proofs.Common.{◌≡◌, ℕ, ◌<◌, slice_index}
use Rattle.kmc_split.specs.Candidates.{packed_candidate}
use Rattle.kmc_split.specs.Quads.{lesser_strand}
use Rattle.kmc_split.proofs.quads.judge_quads.Given as goal

abbrev pub invariant-loop-i : goal.invariant-loop-i
invariant-loop-i l = (j : ℕ) → j < l.i → slice_index l.out j ≡ packed_candidate l.m (lesser_strand l.d l.quads l.turned j)
