-- Whole lines of a FASTQ record.
use Rattle.std.specs.Prelude.{◌≡◌, ℕ, List, [], ◌++◌, None}
use Rattle.kmc_reads.specs.declared.scan.Scan.{Scan}
use Rattle.kmc_reads.specs.Stages.{Spot, past, given_by, fault_of}
use Rattle.kmc_reads.specs.Standing.{At}

-- the scan took a whole line that has no fault, and stands behind its line feed
pub record TookLine (rows : List (List ℕ)) (spot : Spot) (line : List ℕ) (v : Scan) : Type 0 where
  pub fine : fault_of spot.number spot.stage spot.read line ≡ None
  pub stands : At (rows ++ given_by spot.stage spot.read line) (past spot line) [] v
