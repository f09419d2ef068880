-- Laws of records and their faults.
use Rattle.std.specs.Prelude.{ℕ, List, ◌++◌}
use Rattle.kmc_base.specs.Record.{spelling, IsSpelled, IsBodyOf}
use Rattle.kmc_record.specs.Bodies.{AreRecordsOfBin, IsFirstError}
use Rattle.kmc_record.specs.Faults.{HasFault, IsFirstFault}
use Rattle.kmc_record.specs.Shapes.{Sizes}
use Rattle.kmc_record.specs.declared.fault.RecordFault.{RecordFault}
use Rattle.kmc_record.specs.declared.part_error.PartError.{PartError}

-- bytes that begin with a record have no fault there
abbrev pub SpellingHasNoFault : Type 0
SpellingHasNoFault = (k : ℕ) (s rest : List ℕ) (fault : RecordFault) → IsSpelled k s → ¬ (HasFault k fault (spelling k s ++ rest))

-- a body that is whole records has no first fault
abbrev pub WholeBodyHasNoFault : Type 0
WholeBodyHasNoFault = (k : ℕ) (ss : List (List ℕ)) (body : List ℕ) (fault : RecordFault) (offset : ℕ) → IsBodyOf k ss body → ¬
    (IsFirstFault k fault offset body)

-- a body that is records of a bin has no first error
abbrev pub RecordsOfBinHaveNoError : Type 0
RecordsOfBinHaveNoError = (bin : ℕ) (shape : Sizes) (body : List ℕ) (why : PartError) → AreRecordsOfBin bin shape body → ¬
    (IsFirstError bin shape why body)
