use Rattle.std.proofs.Common.{◌≡◌}
use Rattle.kmc_partqueue.specs.SameSeats.{IsSameReader}
use Rattle.kmc_partqueue.proofs.taking.take_part.Given as goal

-- nothing was taken yet
abbrev pub invariant-loop : goal.invariant-loop
invariant-loop g l = IsSameReader l.initial.s l.s × (l.s.got ≡ l.initial.s.got)
