-- What single words of a command line are.
use Rattle.std.specs.Prelude.{◌&&◌, ◌∷◌, Bool, List, [], Option, if◌then◌else◌, nat_eq, not, is_some, codes}
use Rattle.std.specs.List.{list_any}
use Rattle.std.specs.Str.{bytes_eq}
use Rattle.kmc_options.specs.Words.{Word, is_file_name, rest_after}

-- what the word gives as the number of slices: glued, as KMC glues, or in long form
abbrev pub slices_text : Word → Option Word
slices_text word = if is_some (rest_after (codes "-slices") word) then rest_after (codes "-slices") word else rest_after (codes "--slices=") word

abbrev pub is_slices : Word → Bool
is_slices word = is_some (slices_text word)

abbrev pub is_force : Word → Bool
is_force word = bytes_eq word (codes "--force")

-- every other word is one of KMC's options, or nothing
abbrev pub is_other : Word → Bool
is_other word = not (is_file_name word) && (not (is_slices word) && not (is_force word))

-- the words in long form behind which no value follows
abbrev pub plain_words : List Word
plain_words = codes "--fa" ∷ codes "--fq" ∷ codes "--fm" ∷ codes "--b" ∷ codes "--force" ∷ codes "--help" ∷ codes "--version" ∷ []

-- an option in long form whose value is the next word: `--k`, but neither `--k=31` nor `--fa`
abbrev pub awaits_value : Word → Bool
awaits_value word = is_some (rest_after (codes "--") word) && (not (list_any (nat_eq 61) word) && not (list_any (bytes_eq word) plain_words))
