use Rattle.std.proofs.Common.{◌≡◌, length}
use Rattle.kmc_slices.proofs.slicing.noughts.Given as goal

abbrev pub invariant-loop : goal.invariant-loop
invariant-loop l = length l.out.items ≡ l.counter
