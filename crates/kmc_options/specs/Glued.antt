-- KMC's glued words put into long form: `-k31` becomes `--k=31`, and `-fa` becomes `--fa`.
use Rattle.std.specs.Prelude.{◌++◌, Bool, List, [], ◌∷◌, Option, Some, None, map, length, drop, find, if◌then◌else◌, is_some, option_and_then, codes}
use Rattle.std.specs.Option.{option_map_or}
use Rattle.std.specs.List.{list_any}
use Rattle.std.specs.Str.{bytes_eq}
use Rattle.kmc_options.specs.Words.{Word, rest_after}
use Rattle.kmc_options.specs.Names.{flag_name, flags, name_of, settings}
use Rattle.kmc_options.specs.declared.setting.Setting.{Setting}

-- a flag as KMC spells it, with one hyphen, and nothing after it
abbrev pub is_flag : Word → Bool
is_flag word = list_any (λ flag. bytes_eq word (45 ∷ flag_name flag)) flags

-- the option as KMC spells it, with one hyphen
abbrev pub glued_name : Setting → Word
glued_name s = 45 ∷ name_of s

abbrev pub unless_empty : Word → Option Word
unless_empty [] = None
unless_empty (x ∷ xs) = Some (x ∷ xs)

-- the value that the word glues to the option's name
abbrev pub value_in : Setting → Word → Option Word
value_in s word = option_and_then unless_empty (rest_after (glued_name s) word)

-- the option to which the word glues a value; no option's name begins with another's
abbrev pub option_in : Word → Option Setting
option_in word = find (λ s. is_some (value_in s word)) settings

-- `--`, the option's name, `=` and the value
abbrev pub with_value : Setting → Word → Word
with_value s value = codes "--" ++ name_of s ++ codes "=" ++ value

abbrev pub long_form : Word → Word
long_form word =
    if is_flag word then 45 ∷ word
    else option_map_or (λ s. with_value s (drop (length (glued_name s)) word)) (option_in word) word

-- a command line in long form, word by word
abbrev pub long_forms : List Word → List Word
long_forms = map long_form
