use Rattle.std.proofs.Common.{◌+◌}
use Rattle.kmc_split.specs.Quads.{AreQuadsBefore}
use Rattle.kmc_split.proofs.quads.fill_row.Given as goal

abbrev pub invariant-loop-r : goal.invariant-loop-r
invariant-loop-r l = AreQuadsBefore (l.start + l.r) l.codes l.quads l.turned
