use Rattle.std.proofs.Common.{◌≡◌, map, slice_index}
use Rattle.kmc_split.specs.Minima.{low}
use Rattle.kmc_split.proofs.plain.minima.lowest.Given as goal

abbrev pub invariant-loop-i : goal.invariant-loop-i
invariant-loop-i g l = g.V.Mmer.number l.least ≡ low (slice_index (map g.V.Mmer.number l.values)) l.i 0
