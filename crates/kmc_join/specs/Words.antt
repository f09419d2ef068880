-- The words of a command line that ask for a histogram, those that choose the number of a word of both dumps, and the names of the operations.
use Rattle.std.specs.Prelude.{◌&&◌, ◌||◌, ◌==◌, Bool, false, not, is_some, List, [], ◌∷◌, length, Option, Some, None, option_map, if◌then◌else◌, codes}
use Rattle.std.specs.Str.{bytes_eq}
use Rattle.kmc_options.specs.Words.{Word, is_file_name, rest_after}
use Rattle.kmc_join.specs.RangeWords.{is_limit}
use Rattle.kmc_join.specs.declared.operation.Choice.{Choice}
use Rattle.kmc_join.specs.declared.operation.Choice.TheVariants.{Min, Max, Sum, Diff, Left, Right}
use Rattle.kmc_join.specs.declared.operation.Operation.{Operation}
use Rattle.kmc_join.specs.declared.operation.Operation.TheVariants.{Intersect, Union, Subtract, CountersSubtract}

-- the words are `histogram` and the name of a file
abbrev pub asks_for_histogram : List Word → Bool
asks_for_histogram [] = false
asks_for_histogram (name ∷ []) = false
asks_for_histogram (name ∷ file ∷ []) = bytes_eq name (codes "histogram") && is_file_name file
asks_for_histogram (name ∷ file ∷ more ∷ words) = false

-- an option `-oc`, with what it chooses glued to it
abbrev pub is_choice : Word → Bool
is_choice word = is_some (rest_after (codes "-oc") word)

-- neither such an option, nor one that limits the counts of one dump
abbrev pub is_other : Word → Bool
is_other word = not (is_choice word || is_limit word)

abbrev pub choice_named : Word → Option Choice
choice_named word =
    if bytes_eq word (codes "-ocmin") then Some Min
    else if bytes_eq word (codes "-ocmax") then Some Max
    else if bytes_eq word (codes "-ocsum") then Some Sum
    else if bytes_eq word (codes "-ocdiff") then Some Diff
    else if bytes_eq word (codes "-ocleft") then Some Left
    else if bytes_eq word (codes "-ocright") then Some Right
    else None

-- at most one such option stands; where none does, the operation's own choice
abbrev pub choice_of : List Word → Choice → Option Choice
choice_of [] default = Some default
choice_of (word ∷ []) default = choice_named word
choice_of (word ∷ other ∷ words) default = None

-- subtract has nothing to choose, since it takes no word of both
abbrev pub operation_named : Word → List Word → Option Operation
operation_named name choices =
    if bytes_eq name (codes "intersect") then option_map Intersect (choice_of choices Min)
    else if bytes_eq name (codes "union") then option_map Union (choice_of choices Sum)
    else if bytes_eq name (codes "counters-subtract") then option_map CountersSubtract (choice_of choices Diff)
    else if bytes_eq name (codes "subtract") && length choices == 0 then Some Subtract
    else None
