use Rattle.std.proofs.Common.{◌≤◌, ◌-◌}
use Rattle.kmc_dump.proofs.parting.leading.Given as goal

abbrev pub invariant-loop-symbols : goal.invariant-loop-symbols
invariant-loop-symbols l = (1 ≤ l.symbols) × (l.symbols ≤ 10)

abbrev pub decreases-loop-symbols : goal.decreases-loop-symbols
decreases-loop-symbols l = 10 - l.symbols
