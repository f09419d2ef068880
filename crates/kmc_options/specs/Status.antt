-- How a program ends that has a fault.
use Rattle.std.specs.Prelude.{ℕ, Bool, true, false}
use Rattle.kmc_options.specs.declared.fault.Fault.{Fault}
use Rattle.kmc_options.specs.declared.fault.Fault.TheVariants.{Options, Run}
use Rattle.kmc_options.specs.declared.error.ParamsError.TheVariants.{Memory, OutOfRange, Usage}
use Rattle.kmc_options.specs.declared.run_error.RunError.{RunError}
use Rattle.kmc_options.specs.declared.run_error.RunError.TheVariants as run

-- the exit status by whether the command line is at fault: 2 where it is, and else 1
abbrev pub status_of : Bool → ℕ
status_of true = 2
status_of false = 1

-- the command line is at fault; want of memory says nothing of it
abbrev pub is_misuse : Fault → Bool
is_misuse (Options Usage) = true
is_misuse (Options (OutOfRange s)) = true
is_misuse (Options Memory) = false
is_misuse (Run e) = false

-- the run gave up since a write failed
abbrev pub is_write : RunError → Bool
is_write run.Memory = false
is_write run.Read = false
is_write run.Write = true
is_write (run.Input e) = false
is_write run.TooLong = false

-- a write of the dump failed
abbrev pub is_unwritten : Fault → Bool
is_unwritten (Options e) = false
is_unwritten (Run e) = is_write e
