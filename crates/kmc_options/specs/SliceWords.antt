-- The words of a command line, sorted by what they are.
use Rattle.std.specs.Prelude.{◌≡◌, ◌∷◌, ◌++◌, List, [], if◌then◌else◌, map, string_bytes}
use Rattle.std.specs.List.{filter, list_any}
use Rattle.kmc_options.specs.Words.{Word, is_file_name}
use Rattle.kmc_options.specs.Spelling.{awaits_value, is_slices, is_other, is_force}
use Rattle.kmc_options.specs.declared.slices.sorting.SortedWords.{SortedWords}

-- an option in long form and its value become one word: of `--k`, `31`, `part` the words `--k=31` and `part`
abbrev pub joined : List Word → List Word
joined [] = []
joined (word ∷ []) = word ∷ []
joined (word ∷ next ∷ words) = if awaits_value word then (word ++ 61 ∷ next) ∷ joined words else word ∷ joined (next ∷ words)

-- each word stands among its like, in the order of the words
pub record AreSorted (words : List Word) (sorted : SortedWords) : Type 0 where
  pub names : map string_bytes sorted.names.items ≡ filter is_file_name words
  pub slices : map string_bytes sorted.slices.items ≡ filter is_slices words
  pub others : map string_bytes sorted.others.items ≡ filter is_other words
  pub force : sorted.force ≡ list_any is_force words
