use Rattle.std.proofs.Common.{◌≡◌, string_bytes}
use Rattle.kmc_join.specs.Histogram.{rows_text}
use Rattle.kmc_join.proofs.rows.rows.Given as goal

-- the lines so far
abbrev pub invariant-loop-count : goal.invariant-loop-count
invariant-loop-count l = string_bytes l.text ≡ rows_text l.yielded
