-- A file, or standard input in its place.
use Rattle.std.specs.Prelude.{ℕ, List, map, Option, if◌then◌else◌, codes}
use Rattle.std.specs.Str.{bytes_eq}
use Rattle.kmc_options.specs.Words.{Word}
use Rattle.kmc_join.specs.declared.opening.Operand.{Operand}
use Rattle.kmc_join.specs.declared.opening.Operand.TheVariants.{File, Input}

-- what an operand has left, where that is known
abbrev pub left_of : {F I : Type 0} → (F → Option (List ℕ)) → (I → Option (List ℕ)) → Operand F I → Option (List ℕ)
left_of file input (File f) = file f
left_of file input (Input i) = input i

-- a lone hyphen is another name of /dev/stdin, by which standard input is read
abbrev pub full_name : Word → Word
full_name word = if bytes_eq word (codes "-") then codes "/dev/stdin" else word

abbrev pub full_names : List Word → List Word
full_names words = map full_name words
