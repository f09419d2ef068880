-- What the words of a command line ask a join for.
use Rattle.std.specs.Prelude.{◌≡◌, List, ◌∷◌, length, Some}
use Rattle.std.specs.List.{filter}
use Rattle.kmc_options.specs.CommandLine.{found, value_of}
use Rattle.kmc_options.specs.Requests.{AsksForFiles, IsOutOfRange, options_of}
use Rattle.kmc_options.specs.SliceWords.{joined}
use Rattle.kmc_options.specs.Words.{Word, is_file_name}
use Rattle.kmc_options.specs.declared.program.Program.TheVariants.{KmcDb}
use Rattle.kmc_options.specs.declared.setting.Setting.TheVariants.{Ci, Cx, Cs}
use Rattle.kmc_count.specs.declared.limits.Limits.{Limits}
use Rattle.kmc_join.specs.RangeWords.{left_range, right_range}
use Rattle.kmc_join.specs.Words.{is_choice, is_other, operation_named}
use Rattle.kmc_join.specs.declared.rule.JoinRule.{JoinRule}
use Rattle.kmc_join.specs.declared.request.JoinRequestError.{JoinRequestError}
use Rattle.kmc_join.specs.declared.request.JoinRequestError.TheVariants.{Usage, OutOfRange, Memory}

-- the words but for those that choose a number and those that limit the counts of one dump
abbrev pub others_of : List Word → List Word
others_of words = filter is_other words

-- the words that are no options: the name of an operation and the names of files
abbrev pub names_of : List Word → List Word
names_of words = filter is_file_name (joined (others_of words))

-- the words are options, each at most once, the name of an operation and behind it the names of two files
pub record AsksForJoin (words : List Word) (rule : JoinRule) (files : List Word) : Type 0 where
  pub asks : AsksForFiles KmcDb 3 (others_of words)
  pub name : Word
  pub names : names_of words ≡ name ∷ files
  pub two : length files ≡ 2
  pub operation : operation_named name (filter is_choice words) ≡ Some rule.operation
  pub left : left_range words ≡ Some rule.left
  pub right : right_range words ≡ Some rule.right

-- and they give these limits, with the defaults of `kmc` where the options leave them out
pub record IsRequest (words : List Word) (rule : JoinRule) (limits : Limits) (files : List Word) : Type 0 where
  pub asks : AsksForJoin words rule files
  pub ci : value_of (found KmcDb (options_of (others_of words))) Ci ≡ Some limits.ci
  pub cx : value_of (found KmcDb (options_of (others_of words))) Cx ≡ Some limits.cx
  pub cs : value_of (found KmcDb (options_of (others_of words))) Cs ≡ Some limits.cs

-- why the words ask for nothing: their form is judged first, then the values of the options of the result, then the operation, the number of
-- files and the limits of each file; want of memory says nothing of them
abbrev pub Explains : List Word → JoinRequestError → Type 0
Explains words Usage = (rule : JoinRule) (files : List Word) → AsksForJoin words rule files → ⊥
Explains words (OutOfRange s) = AsksForFiles KmcDb 3 (others_of words) × IsOutOfRange KmcDb (others_of words) s
Explains words Memory = Unit {0}
