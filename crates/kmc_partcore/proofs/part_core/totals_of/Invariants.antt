use Rattle.std.proofs.Common.{◌≡◌, map, length, take}
use Rattle.kmc_partcore.specs.declared.part_core.Counters.{Counters}
use Rattle.kmc_partcore.proofs.part_core.totals_of.Given as goal

abbrev pub invariant-loop-w : goal.invariant-loop-w
invariant-loop-w l = (take l.w l.counts ≡ take l.w (map (λ (c : Counters). c.accepted_count) l.writers)) × (length l.counts ≡ 16)
