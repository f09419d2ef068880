use Rattle.std.proofs.Common.{IsTrue}
use Rattle.kmc_base.specs.Stretches.{AreBases}
use Rattle.kmc_base.proofs.stretch.are_bases.Given as goal

abbrev pub invariant-loop-i : goal.invariant-loop-i
invariant-loop-i l = IsTrue l.all → AreBases l.i l.bytes
