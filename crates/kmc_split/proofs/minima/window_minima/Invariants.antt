use Rattle.std.proofs.Common.{◌-◌, ◌≡◌, ℕ, ◌+◌, ◌<◌, ◌≤◌, length, map, slice_index}
use Rattle.kmc_split.specs.Minima.{low}
use Rattle.kmc_split.proofs.minima.window_minima.Given as goal

-- each of the first `count` values is the least of `width` in a row
abbrev pub invariant-loop-width : goal.invariant-loop-width
invariant-loop-width g l = record {
  some : 1 ≤ l.width;
  most : l.width ≤ l.w;
  count : l.count + l.width ≡ l.n + 1;
  here : l.n + 16 ≤ length l.values.items;
  there : l.n + 16 ≤ length l.spare.items;
  each : (j : ℕ) → j < l.count → slice_index (map g.V.Mmer.number l.values.items) j
      ≡ low (slice_index (map g.V.Mmer.number l.initial.values.items)) l.width j;
}

abbrev pub decreases-loop-width : goal.decreases-loop-width
decreases-loop-width g l = l.w - l.width
