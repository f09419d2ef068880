-- What a user is told where there is no spectrum.
use Rattle.std.specs.Prelude.{ℕ, List, ◌++◌, codes}
use Rattle.kmc_options.specs.Messages.{text_of_run_error}
use Rattle.kmc_options.specs.Names.{name_of}
use Rattle.kmc_options.specs.declared.error.ParamsError.TheVariants.{Usage, OutOfRange, Memory}
use Rattle.kmc_options.specs.declared.fault.Fault.{Fault}
use Rattle.kmc_options.specs.declared.fault.Fault.TheVariants.{Options, Run}

-- the line that tells of a fault: `kmc_db: line 3: bad plus line`
abbrev pub message_of : Fault → List ℕ
message_of (Options Usage) = codes "usage: kmc_db spectrum [options of kmc] < reads > a.histogram"
message_of (Options (OutOfRange s)) = codes "kmc_db: value of -" ++ name_of s ++ codes " is out of range"
message_of (Options Memory) = codes "kmc_db: out of memory"
message_of (Run e) = codes "kmc_db: " ++ text_of_run_error e
