use Rattle.std.proofs.Common.{◌≡◌, length}
use Rattle.kmc_sum.proofs.opening.heads_for.Given as goal

abbrev pub invariant-loop-i : goal.invariant-loop-i
invariant-loop-i l = length l.heads.items ≡ l._i
