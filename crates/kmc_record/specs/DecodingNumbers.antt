-- The numbers of the refusals.
use Rattle.std.specs.Prelude.{ℕ}
use Rattle.kmc_record.specs.RefusalNumbers.{number_of_record_fault}
use Rattle.kmc_record.specs.declared.plain.decoding.RecordError.{RecordError}
use Rattle.kmc_record.specs.declared.plain.decoding.RecordError.TheVariants.{Damaged, Memory}

abbrev pub number_of_record_error : RecordError → ℕ
number_of_record_error (Damaged fault) = number_of_record_fault fault
number_of_record_error Memory = 3
