use Rattle.std.proofs.Common.{◌≡◌, ℕ, ◌≤◌, ◌%◌, map, slice_index}
use Rattle.kmc_split.specs.Minima.{low}
use Rattle.kmc_split.specs.Candidates.{unmarked}
use Rattle.kmc_split.proofs.belonging.minima_in_bin.Given as goal

-- the least one here, and all up to here have the bin
abbrev pub invariant-loop-i : goal.invariant-loop-i
invariant-loop-i g l = (g.V.Mmer.number l.least ≡ low (slice_index (map g.V.Mmer.number l.values)) l.width l.i)
    × ((j : ℕ) → j ≤ l.i → unmarked l.m (low (slice_index (map g.V.Mmer.number l.values)) l.width j) % l.n ≡ l.bin)
