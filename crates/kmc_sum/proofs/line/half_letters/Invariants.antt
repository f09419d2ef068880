use Rattle.kmc_sum.specs.Line.{AreLetters}
use Rattle.kmc_sum.proofs.line.half_letters.Given as goal

-- the letters so far are packed
abbrev pub invariant-loop-i : goal.invariant-loop-i
invariant-loop-i l = AreLetters l.i l.packed l.bytes
