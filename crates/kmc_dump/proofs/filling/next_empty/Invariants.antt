use Rattle.std.proofs.Common.{◌≡◌}
use Rattle.kmc_dump.proofs.filling.next_empty.Given as goal

-- nothing was sent on
abbrev pub invariant-loop : goal.invariant-loop
invariant-loop g l = l.filler.full ≡ l.initial.filler.full
