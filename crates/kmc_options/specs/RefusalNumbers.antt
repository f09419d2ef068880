-- The numbers of the refusals.
use Rattle.std.specs.Prelude.{ℕ}
use Rattle.kmc_options.specs.declared.error.ParamsError.{ParamsError}
use Rattle.kmc_options.specs.declared.error.ParamsError.TheVariants as params_error
use Rattle.kmc_options.specs.declared.run_error.RunError.{RunError}
use Rattle.kmc_options.specs.declared.run_error.RunError.TheVariants as run_error
use Rattle.kmc_options.specs.declared.fault.Fault.{Fault}
use Rattle.kmc_options.specs.declared.fault.Fault.TheVariants as fault

abbrev pub number_of_params_error : ParamsError → ℕ
number_of_params_error params_error.Usage = 1
number_of_params_error (params_error.OutOfRange _) = 2
number_of_params_error params_error.Memory = 3

abbrev pub number_of_run_error : RunError → ℕ
number_of_run_error run_error.Memory = 1
number_of_run_error run_error.Read = 2
number_of_run_error run_error.Write = 3
number_of_run_error (run_error.Input _) = 4
number_of_run_error run_error.TooLong = 5

abbrev pub number_of_fault : Fault → ℕ
number_of_fault (fault.Options _) = 1
number_of_fault (fault.Run _) = 2
