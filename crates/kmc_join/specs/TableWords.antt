-- The words of a command line that ask for a table.
use Rattle.std.specs.Prelude.{◌&&◌, ℕ, Bool, is_some, List, [], ◌∷◌, Option, Some, None, option_and_then, if◌then◌else◌, codes}
use Rattle.std.specs.Str.{bytes_eq}
use Rattle.kmc_options.specs.Settings.{bounds_of, chosen}
use Rattle.kmc_options.specs.Words.{Word, is_file_name, rest_after}
use Rattle.kmc_options.specs.declared.setting.Setting.TheVariants.{Cs}

-- what the word gives as the cap, glued or in long form
abbrev pub cap_text : Word → Option Word
cap_text word = if is_some (rest_after (codes "-cs") word) then rest_after (codes "-cs") word else rest_after (codes "--cs=") word

-- the cap that the word gives, in the range of -cs
abbrev pub cap_given : Word → Option ℕ
cap_given word = option_and_then (λ text. chosen (bounds_of Cs) (Some text)) (cap_text word)

-- where no word gives one, as in KAT
abbrev pub usual_cap : ℕ
usual_cap = 1000

-- `table` and the names of two files
abbrev pub is_table : Word → Word → Word → Bool
is_table name first second = bytes_eq name (codes "table") && (is_file_name first && is_file_name second)

-- the cap, where the words are `table`, an option -cs or none, and the names of two files
abbrev pub table_cap : List Word → Option ℕ
table_cap [] = None
table_cap (a ∷ []) = None
table_cap (a ∷ b ∷ []) = None
table_cap (name ∷ first ∷ second ∷ []) = if is_table name first second then Some usual_cap else None
table_cap (name ∷ option ∷ first ∷ second ∷ []) = if is_table name first second then cap_given option else None
table_cap (a ∷ b ∷ c ∷ d ∷ e ∷ words) = None
