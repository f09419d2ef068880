-- Words of a command line, by their bytes.
use Rattle.std.specs.Prelude.{◌&&◌, ℕ, Bool, not, List, [], Option, Some, None, is_some, length, drop, codes, slice_index_or, if◌then◌else◌, nat_eq, nat_lt}
use Rattle.std.specs.Char.{is_ascii_digit}
use Rattle.std.specs.List.{list_all, starts_with}
use Rattle.std.specs.Str.Parse.{digits_value}

-- a word of the command line, by its bytes
abbrev pub Word : Type 0
Word = List ℕ

-- what follows the prefix in a word that begins with it: behind -ci in -ci3 stands 3, and in 3 nothing
abbrev pub rest_after : Word → Word → Option Word
rest_after prefix word =
    if starts_with nat_eq word prefix then Some (drop (length prefix) word) else None

-- a word that begins with a hyphen is no name of a file
abbrev pub is_file_name : Word → Bool
is_file_name word = not (is_some (rest_after (codes "-") word))

-- the name of a file, as it was given
abbrev pub name_at : List Word → ℕ → Word
name_at files i = slice_index_or files i []

-- one or more ASCII digits, with leading zeros or without
abbrev pub number_of : Word → Option ℕ
number_of text =
    if nat_lt 0 (length text) && list_all is_ascii_digit text then Some (digits_value 10 text) else None
