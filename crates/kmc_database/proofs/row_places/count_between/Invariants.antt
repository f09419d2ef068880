use Rattle.std.proofs.Common.{◌≡◌, ◌-◌, ◌≤◌, List, ℕ, Some}
use Rattle.kmc_database.specs.Part.{IsPart}
use Rattle.kmc_database.proofs.Parts.{IsNarrowed}
use Rattle.kmc_database.proofs.row_places.count_between.Given as goal

-- the rows from `low` to `high` give the word the count that all of them give it
abbrev pub invariant-loop-low : goal.invariant-loop-low
invariant-loop-low g l = record {
  bytes : g.S.Places.bytes l.suffix ≡ g.S.Places.bytes l.initial.suffix;
  kept : g.S.Places.failures l.suffix ≡ g.S.Places.failures l.initial.suffix;
  least : l.from ≤ l.low;
  order : l.low ≤ l.high;
  most : l.high ≤ l.to;
  narrowed : (bytes : List ℕ) (pairs : List (List ℕ × ℕ)) → g.S.Places.bytes l.initial.suffix ≡ Some bytes
      → IsPart l.layout l.part bytes l.from l.to pairs → IsNarrowed l.layout l.part bytes l.low l.high pairs l.key;
}

abbrev pub decreases-loop-low : goal.decreases-loop-low
decreases-loop-low g l = l.high - l.low
