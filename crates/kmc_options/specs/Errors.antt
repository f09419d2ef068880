-- How a run tells why its input was not read.
use Rattle.kmc_reads.specs.declared.input_error.InputError.{InputError}
use Rattle.kmc_reads.specs.declared.input_error.InputError.TheVariants.{Memory, Read, Faulty, TooLong}
use Rattle.kmc_options.specs.declared.run_error.RunError.{RunError}
use Rattle.kmc_options.specs.declared.run_error.RunError.TheVariants as run

abbrev pub run_error : InputError → RunError
run_error Memory = run.Memory
run_error Read = run.Read
run_error (Faulty e) = run.Input e
run_error TooLong = run.TooLong
