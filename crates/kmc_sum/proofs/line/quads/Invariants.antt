use Rattle.std.proofs.Common.{◌*◌}
use Rattle.kmc_sum.specs.Line.{AreLetters}
use Rattle.kmc_sum.proofs.line.quads.Given as goal

-- the letters so far are packed
abbrev pub invariant-loop-j : goal.invariant-loop-j
invariant-loop-j l = AreLetters (4 * l.j) l.packed l.bytes
