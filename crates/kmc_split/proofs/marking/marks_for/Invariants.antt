use Rattle.std.proofs.Common.{◌≡◌}
use Rattle.kmc_split.specs.Candidates.{pair_marks}
use Rattle.kmc_split.proofs.marking.marks_for.Given as goal

abbrev pub invariant-loop-i : goal.invariant-loop-i
invariant-loop-i l = l.marks ≡ pair_marks l._i
