-- What the words of a command line ask a merge for.
use Rattle.std.specs.Prelude.{◌≡◌, ℕ, List, Some}
use Rattle.std.specs.List.{filter}
use Rattle.kmc_options.specs.CommandLine.{found, value_of}
use Rattle.kmc_options.specs.Requests.{AsksForFiles, IsOutOfRange, options_of}
use Rattle.kmc_options.specs.SliceWords.{joined}
use Rattle.kmc_options.specs.Words.{Word, is_file_name}
use Rattle.kmc_options.specs.declared.program.Program.TheVariants.{KmcMerge}
use Rattle.kmc_options.specs.declared.setting.Setting.TheVariants.{Ci, Cx, Cs}
use Rattle.kmc_count.specs.declared.limits.Limits.{Limits}
use Rattle.kmc_sum.specs.declared.request.RequestError.{RequestError}
use Rattle.kmc_sum.specs.declared.request.RequestError.TheVariants.{Usage, OutOfRange, Memory}

-- the words are options, each at most once and in range, and names of files, at least one and at most so many, and give these limits,
-- with the defaults of `kmc` where the options leave them out
pub record IsRequest (most : ℕ) (words : List Word) (limits : Limits) (files : List Word) : Type 0 where
  pub asks : AsksForFiles KmcMerge most words
  pub names : files ≡ filter is_file_name (joined words)
  pub ci : value_of (found KmcMerge (options_of words)) Ci ≡ Some limits.ci
  pub cx : value_of (found KmcMerge (options_of words)) Cx ≡ Some limits.cx
  pub cs : value_of (found KmcMerge (options_of words)) Cs ≡ Some limits.cs

-- why the words ask for nothing: their form is judged first, and then the values of the options; want of memory says nothing of them
abbrev pub Explains : ℕ → List Word → RequestError → Type 0
Explains most words Usage = AsksForFiles KmcMerge most words → ⊥
Explains most words (OutOfRange s) = AsksForFiles KmcMerge most words × IsOutOfRange KmcMerge words s
Explains most words Memory = Unit {0}
