use Rattle.std.proofs.Common.{◌≡◌, ℕ, ◌+◌, ◌*◌, ◌<◌, map, slice_index, min}
use Rattle.kmc_split.proofs.minima.lower_of_four.Given as goal

abbrev pub invariant-loop-i : goal.invariant-loop-i
invariant-loop-i g l = (j : ℕ) → j < l.i → slice_index (map g.V.Mmer.number l.out) j
    ≡ min (min (slice_index (map g.V.Mmer.number l.values) j) (slice_index (map g.V.Mmer.number l.values) (j + l.d)))
    (min (slice_index (map g.V.Mmer.number l.values) (j + 2 * l.d)) (slice_index (map g.V.Mmer.number l.values) (j + 3 * l.d)))
