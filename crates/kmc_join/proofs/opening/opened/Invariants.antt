use Rattle.std.proofs.Common.{◌≡◌, vec_len}
use Rattle.kmc_join.proofs.opening.opened.Given as goal

abbrev pub invariant-loop-i : goal.invariant-loop-i
invariant-loop-i g l = vec_len l.readers ≡ l.i
