-- The words of a command line that limit the counts of one dump of a join.
use Rattle.std.specs.Prelude.{◌||◌, ◌-◌, ◌^◌, ℕ, Bool, is_some, List, [], ◌∷◌, Option, Some, None, option_map, option_and_then, if◌then◌else◌, nat_lt, codes}
use Rattle.std.specs.List.{filter}
use Rattle.kmc_options.specs.Words.{Word, number_of, rest_after}
use Rattle.kmc_join.specs.declared.rule.CountRange.{CountRange}

-- the word begins with the name of this option
abbrev pub begins_with : Word → Word → Bool
begins_with name word = is_some (rest_after name word)

-- a number from 0 to 2^64 - 1
abbrev pub count_in : Word → Option ℕ
count_in text = option_and_then (λ n. if nat_lt n (2 ^ 64) then Some n else None) (number_of text)

-- the number of an option by the words that begin with its name: of the only one what stands behind the name, and where there is none the default
abbrev pub limit_of : Word → List Word → ℕ → Option ℕ
limit_of name [] default = Some default
limit_of name (word ∷ []) default = option_and_then count_in (rest_after name word)
limit_of name (word ∷ other ∷ words) default = None

abbrev pub limit_given : Word → List Word → ℕ → Option ℕ
limit_given name words default = limit_of name (filter (begins_with name) words) default

-- from the number of one option to that of another, each at most once among the words: without them from 0 to 2^64 - 1
abbrev pub range_given : Word → Word → List Word → Option CountRange
range_given least greatest words =
    option_and_then (λ a. option_map (λ b. record { least = a; greatest = b }) (limit_given greatest words (2 ^ 64 - 1))) (limit_given least words 0)

-- the counts that are taken of the first dump and of the second
abbrev pub left_range : List Word → Option CountRange
left_range words = range_given (codes "-lci") (codes "-lcx") words

abbrev pub right_range : List Word → Option CountRange
right_range words = range_given (codes "-rci") (codes "-rcx") words

-- an option that limits the counts of one dump
abbrev pub is_limit : Word → Bool
is_limit word = (begins_with (codes "-lci") word || begins_with (codes "-lcx") word) || (begins_with (codes "-rci") word || begins_with (codes "-rcx") word)
