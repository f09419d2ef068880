-- The numbers of the refusals.
use Rattle.std.specs.Prelude.{ℕ}
use Rattle.kmc_record.specs.declared.fault.RecordFault.{RecordFault}
use Rattle.kmc_record.specs.declared.fault.RecordFault.TheVariants as record_fault
use Rattle.kmc_record.specs.declared.fault.BodyError.{BodyError}
use Rattle.kmc_record.specs.declared.fault.BodyError.TheVariants as body_error

abbrev pub number_of_record_fault : RecordFault → ℕ
number_of_record_fault record_fault.Short = 1
number_of_record_fault record_fault.Padding = 2

abbrev pub number_of_body_error : BodyError → ℕ
number_of_body_error (body_error.Damaged _ _) = 1
number_of_body_error body_error.Memory = 2
number_of_body_error body_error.WrongBin = 3
