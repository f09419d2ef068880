use Rattle.std.proofs.Common.{◌≡◌, ◌-◌, ◌<◌, ◌^◌, drop, length}
use Rattle.kmc_database.specs.Numbers.{low_first}
use Rattle.kmc_database.proofs.number.low_number.Given as goal

-- the number of the last bytes
abbrev pub invariant-loop-i : goal.invariant-loop-i
invariant-loop-i l = record {
  bytes : low_first l.i l.number ≡ drop (length l.bytes - l.i) l.bytes;
  fits : l.number < 256 ^ l.i;
}
