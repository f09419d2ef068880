-- What a fault of the parse means.
use Rattle.std.specs.Prelude.{◌≡◌, false, List}
use Rattle.kmc_options.specs.CommandLine.{is_accepted}
use Rattle.kmc_options.specs.Words.{Word}
use Rattle.kmc_options.specs.declared.program.Program.{Program}
use Rattle.kmc_options.specs.declared.error.ParamsError.{ParamsError}
use Rattle.kmc_options.specs.declared.error.ParamsError.TheVariants.{Memory, OutOfRange, Usage}

-- the parse was refused memory, or found fault with the words; it judges no value
abbrev pub FailsAs : Program → List Word → ParamsError → Type 0
FailsAs program words Usage = is_accepted program words ≡ false
FailsAs program words (OutOfRange s) = ⊥
FailsAs program words Memory = Unit {0}
