use Rattle.std.proofs.Common.{take}
use Rattle.kmc_base.specs.Record.{codes_in}
use Rattle.kmc_record.specs.Parts.{bin_runs}
use Rattle.kmc_record.specs.GrowingParts.{HaveGrown}
use Rattle.kmc_record.proofs.parts.push_runs.Given as goal

abbrev pub invariant-loop-run : goal.invariant-loop-run
invariant-loop-run l = HaveGrown l.shape.k (λ j. bin_runs l.shape.k l.shape.n j (codes_in l.packed) (take l.run-index l.runs)) l.initial.parts.items l.parts.items
