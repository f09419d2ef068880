use Rattle.std.proofs.Common.{◌≡◌, ℕ, ◌<◌, ◌^◌, take, get_or}
use Rattle.std.specs.Str.Parse.{digits_value}
use Rattle.std.specs.Int.{IsInRange}
use Rattle.kmc_sum.proofs.line.digits.Given as goal

-- the digits so far are read
abbrev pub invariant-loop-i : goal.invariant-loop-i
invariant-loop-i l = record {
  small : l.value < 10 ^ l.i;
  value : l.value ≡ digits_value 10 (take l.i l.bytes);
  each : (j : ℕ) → j < l.i → IsInRange 48 57 (get_or l.bytes j 0);
}
