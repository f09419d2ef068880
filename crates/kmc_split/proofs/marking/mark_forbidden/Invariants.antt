use Rattle.std.proofs.Common.{◌≡◌, ℕ, ◌<◌, ◌≤◌, map, slice_index}
use Rattle.kmc_split.specs.Candidates.{packed_candidate}
use Rattle.kmc_split.proofs.marking.mark_forbidden.Given as goal

abbrev pub invariant-loop-i : goal.invariant-loop-i
invariant-loop-i g l = ((j : ℕ) → j < l.i → slice_index (map g.V.Mmer.number l.values) j
    ≡ packed_candidate l.m (slice_index (map g.V.Mmer.number l.initial.values) j))
    × ((j : ℕ) → l.i ≤ j → slice_index (map g.V.Mmer.number l.values) j ≡ slice_index (map g.V.Mmer.number l.initial.values) j)
