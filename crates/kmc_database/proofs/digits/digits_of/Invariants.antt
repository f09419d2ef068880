use Rattle.std.proofs.Common.{◌+◌, ◌≡◌, ◌≤◌, length, decimal}
use Rattle.kmc_database.proofs.digits.digits_of.Given as goal

-- the digits that were told and those of the rest, of which the last is told already, are all
abbrev pub invariant-loop-rest : goal.invariant-loop-rest
invariant-loop-rest l = record {
  all : l.digits + length (decimal l.rest) ≡ 1 + length (decimal l.count);
  most : l.digits ≤ 20;
}

abbrev pub decreases-loop-rest : goal.decreases-loop-rest
decreases-loop-rest l = l.rest
