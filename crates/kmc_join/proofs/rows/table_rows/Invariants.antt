use Rattle.std.proofs.Common.{◌≡◌, string_bytes}
use Rattle.kmc_join.specs.Table.{table_text}
use Rattle.kmc_join.proofs.rows.table_rows.Given as goal

-- the lines so far
abbrev pub invariant-loop-left : goal.invariant-loop-left
invariant-loop-left l = string_bytes l.text ≡ table_text l.yielded
