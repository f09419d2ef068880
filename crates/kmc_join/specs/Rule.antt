-- The number of a word of two dumps of which each counts within limits of its own.
use Rattle.std.specs.Prelude.{◌&&◌, ℕ, if◌then◌else◌, nat_le}
use Rattle.kmc_join.specs.Operation.{combined}
use Rattle.kmc_join.specs.declared.rule.CountRange.{CountRange}
use Rattle.kmc_join.specs.declared.rule.JoinRule.{JoinRule}

-- the count that is taken of a word: from 2 to 10 the count 5 is taken as it is, and 1 and 11 are taken for 0, as if the dump did not list it
abbrev pub within : CountRange → ℕ → ℕ
within range n = if nat_le range.least n && nat_le n range.greatest then n else 0

-- the number of a word by its counts in two dumps, each taken within the limits of its dump before the operation
abbrev pub number_by : JoinRule → ℕ → ℕ → ℕ
number_by rule a b = combined rule.operation (within rule.left a) (within rule.right b)
