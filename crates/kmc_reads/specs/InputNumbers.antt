-- The numbers of the refusals.
use Rattle.std.specs.Prelude.{ℕ}
use Rattle.kmc_reads.specs.declared.input_error.InputError.{InputError}
use Rattle.kmc_reads.specs.declared.input_error.InputError.TheVariants.{Memory, Read, Faulty, TooLong}

abbrev pub number_of_input_error : InputError → ℕ
number_of_input_error Memory = 1
number_of_input_error Read = 2
number_of_input_error (Faulty _) = 4
number_of_input_error TooLong = 5
