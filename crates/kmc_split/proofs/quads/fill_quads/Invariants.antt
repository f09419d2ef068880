use Rattle.std.proofs.Common.{◌*◌}
use Rattle.kmc_split.specs.Quads.{AreQuadsBefore}
use Rattle.kmc_split.proofs.quads.fill_quads.Given as goal

abbrev pub invariant-loop-i : goal.invariant-loop-i
invariant-loop-i l = AreQuadsBefore l.i l.codes l.quads l.turned

abbrev pub invariant-loop-row : goal.invariant-loop-row
invariant-loop-row l = AreQuadsBefore (l.row * 16) l.codes l.quads l.turned
