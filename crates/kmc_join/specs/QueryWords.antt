-- The words of a command line that ask for the counts of words.
use Rattle.std.specs.Prelude.{◌&&◌, Bool, List, [], ◌∷◌, Option, Some, None, if◌then◌else◌, codes}
use Rattle.std.specs.Str.{bytes_eq}
use Rattle.kmc_base.specs.declared.strands.Strands.{Strands}
use Rattle.kmc_base.specs.declared.strands.Strands.TheVariants.{Joined, Apart}
use Rattle.kmc_options.specs.Words.{Word, is_file_name}

-- `query` and the name of a file
abbrev pub is_query : Word → Word → Bool
is_query name file = bytes_eq name (codes "query") && is_file_name file

-- whether strands are joined, where the words are `query`, the option -b or none, and the name of a file: the option tells them apart
abbrev pub query_strands : List Word → Option Strands
query_strands [] = None
query_strands (a ∷ []) = None
query_strands (name ∷ file ∷ []) = if is_query name file then Some Joined else None
query_strands (name ∷ option ∷ file ∷ []) = if is_query name file && bytes_eq option (codes "-b") then Some Apart else None
query_strands (a ∷ b ∷ c ∷ d ∷ words) = None
