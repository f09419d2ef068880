-- The numbers of the refusals.
use Rattle.std.specs.Prelude.{ℕ}
use Rattle.kmc_record.specs.declared.part_error.PartError.{PartError}
use Rattle.kmc_record.specs.declared.part_error.PartError.TheVariants.{Damaged, WrongBin, Memory}

abbrev pub number_of_part_error : PartError → ℕ
number_of_part_error (Damaged _ _) = 1
number_of_part_error (WrongBin _) = 2
number_of_part_error Memory = 3
