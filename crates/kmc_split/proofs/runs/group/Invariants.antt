use Rattle.std.proofs.Common.{length, map, drop, slice_index}
use Rattle.kmc_split.specs.Cut.{AreRuns}
use Rattle.kmc_split.specs.Candidates.{unmarked}
use Rattle.kmc_split.specs.Rows.{AreRowEnds, MayFollow}
use Rattle.kmc_split.proofs.runs.group.Given as goal

-- the rows that are left, and the runs of those before them
abbrev pub invariant-loop-end : goal.invariant-loop-end
invariant-loop-end g l = record {
  rows : AreRowEnds (slice_index (map g.V.Mmer.number l.values)) l.start (length l.values) (drop l.end-index l.end-items);
  runs : AreRuns (λ i. unmarked l.m (slice_index (map g.V.Mmer.number l.values) i)) 0 l.start l.runs.items;
  apart : MayFollow (unmarked l.m (slice_index (map g.V.Mmer.number l.values) l.start)) l.runs.items;
}
