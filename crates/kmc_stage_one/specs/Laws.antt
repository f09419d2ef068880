-- Laws of dealing.
use Rattle.std.specs.Prelude.{ℕ, ◌*◌, ◌<◌, ◌≤◌, List, length}
use Rattle.kmc_record.specs.Shapes.{Sizes}
use Rattle.kmc_partcore.specs.declared.shape.TheConstants.{MAX_ITEMS}
use Rattle.kmc_stage_one.specs.Causes.{IsCause}
use Rattle.kmc_partqueue.specs.declared.refusal.Refusal.TheVariants.{NumbersSpent}

-- where no writer has more than so many chunks, it puts at most a part for each bin and chunk, and no numbers are spent
abbrev pub FewChunksSpendNoNumbers : Type 0
FewChunksSpendNoNumbers = (each : ℕ) (shape : Sizes) (batch : ℕ) (reads : List (List ℕ)) (sp : ℕ)
    → each * shape.n ≤ MAX_ITEMS → 0 < batch → length reads ≤ each * sp * batch → IsCause shape batch reads sp NumbersSpent → ⊥
