use Rattle.std.proofs.Common.{◌<◌, map, take, slice_index}
use Rattle.kmc_split.specs.Rows.{AreRowEnds}
use Rattle.kmc_split.proofs.runs.row_ends.Given as goal

abbrev pub invariant-loop-i : goal.invariant-loop-i
invariant-loop-i g l = (l.count < l.i) × AreRowEnds (slice_index (map g.V.Mmer.number l.values)) 0 l.i (take l.count l.ends)
