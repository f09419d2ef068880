-- What the answers to a command line in long form mean.
use Rattle.std.specs.Prelude.{◌≡◌, ◌&&◌, Bool, true, false, not, List, Option, Some, None, if◌then◌else◌, find, is_some, min}
use Rattle.clap.specs.Walk.{Row}
use Rattle.kmc_options.specs.CommandLine.{format_of, found, given_text, is_accepted, strands_of, value_of}
use Rattle.kmc_options.specs.Words.{Word}
use Rattle.kmc_options.specs.Names.{settings}
use Rattle.kmc_options.specs.declared.error.ParamsError.{ParamsError}
use Rattle.kmc_options.specs.declared.error.ParamsError.TheVariants.{Memory, OutOfRange, Usage}
use Rattle.kmc_options.specs.Ranges.{fitting_length}
use Rattle.kmc_options.specs.declared.program.Program.{Program}
use Rattle.kmc_options.specs.declared.run_params.Params.{Params}
use Rattle.kmc_options.specs.declared.setting.Setting.{Setting}
use Rattle.kmc_options.specs.declared.setting.Setting.TheVariants.{K, P, N, Ci, Cx, Cs, Sp, Sr}

-- `clap` accepts the words, and at most one format flag stands among them
abbrev pub is_taken : Program → List Word → Bool
is_taken program words = is_accepted program words && is_some (format_of (found program words))

-- the first option, in the order of `settings`, whose value is out of range
abbrev pub first_out_of_range : List Row → Option Setting
first_out_of_range rows = find (λ s. not (is_some (value_of rows s))) settings

-- the settings are those that the options give, with defaults where they give none
pub record AreGiven (rows : List Row) (r : Params) : Type 0 where
  pub format : format_of rows ≡ Some r.format
  pub strands : r.strands ≡ strands_of rows
  pub k : value_of rows K ≡ Some r.k
  pub p : value_of rows P ≡ Some r.asked_signature_length
  pub n : value_of rows N ≡ Some r.bins
  pub ci : value_of rows Ci ≡ Some r.limits.ci
  pub cx : value_of rows Cx ≡ Some r.limits.cx
  pub cs : value_of rows Cs ≡ Some r.limits.cs
  pub sp : value_of rows Sp ≡ Some r.splitters
  pub sr : value_of rows Sr ≡ Some r.counters

-- the program's own queue: one storer, up to 64 parts of a splitter in the queue, 65536 reads of a round for each splitter
abbrev pub HasProgramQueue : Params → Type 0
HasProgramQueue r = (r.readers ≡ 1) × (r.per_writer ≡ 64) × (r.batch ≡ 65536)

-- the program's own signatures: of as many symbols as `-p` says, or of a whole word, and where `-p` does not stand of as many as
-- fit words of k symbols best
abbrev pub HasProgramSignatures : List Row → Params → Type 0
HasProgramSignatures rows r = r.signature_length ≡ (if is_some (given_text rows P) then min r.asked_signature_length r.k else fitting_length r.k)

-- why the options give no settings
abbrev pub Faults : List Row → ParamsError → Type 0
Faults rows Usage = format_of rows ≡ None
Faults rows (OutOfRange s) =
    (is_some (format_of rows) ≡ true) × (first_out_of_range rows ≡ Some s)
Faults rows Memory = ⊥

-- why the words give no settings; want of memory says nothing of them
abbrev pub Explains : Program → List Word → ParamsError → Type 0
Explains program words Usage = is_taken program words ≡ false
Explains program words (OutOfRange s) = (is_taken program words ≡ true) × (first_out_of_range (found program words) ≡ Some s)
Explains program words Memory = Unit {0}
