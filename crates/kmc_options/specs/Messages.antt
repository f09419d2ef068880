-- What a user is told of a command line that gives no settings, and of a run that gave up.
use Rattle.std.specs.Prelude.{ℕ, List, ◌++◌, codes}
use Rattle.kmc_reads.specs.Messages.{text_of_reads_error}
use Rattle.kmc_options.specs.Names.{name_of, usage_of}
use Rattle.kmc_options.specs.declared.error.ParamsError.{ParamsError}
use Rattle.kmc_options.specs.declared.error.ParamsError.TheVariants.{Usage, OutOfRange, Memory}
use Rattle.kmc_options.specs.declared.run_error.RunError.{RunError}
use Rattle.kmc_options.specs.declared.run_error.RunError.TheVariants as run
use Rattle.kmc_options.specs.declared.program.Program.TheVariants.{Kmc}
use Rattle.kmc_options.specs.declared.fault.Fault.{Fault}
use Rattle.kmc_options.specs.declared.fault.Fault.TheVariants.{Options, Run}

abbrev pub text_of_params_error : ParamsError → List ℕ
text_of_params_error Usage = usage_of Kmc
text_of_params_error (OutOfRange s) = codes "kmc: value of -" ++ name_of s ++ codes " is out of range"
text_of_params_error Memory = codes "kmc: out of memory"

abbrev pub text_of_run_error : RunError → List ℕ
text_of_run_error run.Memory = codes "out of memory"
text_of_run_error run.Read = codes "read failed"
text_of_run_error run.Write = codes "write failed"
text_of_run_error (run.Input e) = text_of_reads_error e
text_of_run_error run.TooLong = codes "input too long"

-- the line that tells of a fault: `kmc: line 3: bad plus line`
abbrev pub message_of : Fault → List ℕ
message_of (Options e) = text_of_params_error e
message_of (Run e) = codes "kmc: " ++ text_of_run_error e
