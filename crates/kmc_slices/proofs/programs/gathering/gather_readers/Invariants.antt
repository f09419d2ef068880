-- the readers so far gave the records of one slice
use Rattle.std.proofs.Common.{◌≡◌, ℕ, List, Option, length}
use Rattle.kmc_slices.specs.Gathered.{AreGathered}
use Rattle.kmc_slices.specs.ListProgram.{AreOpened, opened_by}
use Rattle.kmc_slices.proofs.programs.gathering.gather_readers.Given as goal

abbrev pub invariant-loop-i : goal.invariant-loop-i
invariant-loop-i g l = (readings : List (Option (List ℕ) × Option (List ℕ))) × (length readings ≡ l.i)
    × AreOpened (opened_by g.R.Read.remaining (goal.F-post g l.opener)) readings × AreGathered readings l.records
