-- What words ask of the programs that cut, list and merge.
use Rattle.std.specs.Prelude.{◌≡◌, ◌≤◌, ◌∷◌, ℕ, true, false, List, [], None, Some, length, map, option_and_then, string_bytes}
use Rattle.std.specs.List.{filter, list_any}
use Rattle.kmc_options.specs.Words.{Word, number_of, is_file_name}
use Rattle.kmc_options.specs.declared.program.Program.{Program}
use Rattle.kmc_options.specs.declared.program.Program.TheVariants.{KmcCut, KmcList}
use Rattle.kmc_options.specs.declared.run_params.Params.{Params}
use Rattle.kmc_options.specs.declared.setting.Setting.{Setting}
use Rattle.kmc_options.specs.CommandLine.{found}
use Rattle.kmc_options.specs.Glued.{long_forms}
use Rattle.kmc_options.specs.Options.{AreGiven, HasProgramQueue, HasProgramSignatures, first_out_of_range, is_taken}
use Rattle.kmc_options.specs.Spelling.{is_slices, is_other, is_force, slices_text}
use Rattle.kmc_options.specs.SliceWords.{joined}
use Rattle.kmc_options.specs.declared.slices.cutting.CutRequest.{CutRequest}
use Rattle.kmc_options.specs.declared.slices.listing.ListRequest.{ListRequest}

-- KMC's options among the words, in long form
abbrev pub options_of : List Word → List Word
options_of words = long_forms (filter is_other (joined words))

abbrev pub most_slices : ℕ
most_slices = 1000

-- from 1 to 1000, and no more than there are bins
pub record IsNumberOfSlices (word : Word) (bins n : ℕ) : Type 0 where
  pub is : option_and_then number_of (slices_text word) ≡ Some n
  pub some : 1 ≤ n
  pub most : n ≤ most_slices
  pub few : n ≤ bins

-- the words are a prefix, a number of slices and options of the program that cuts
pub record AsksForCut (words : List Word) : Type 0 where
  pub names : length (filter is_file_name (joined words)) ≡ 1
  pub slices : length (filter is_slices (joined words)) ≡ 1
  pub taken : is_taken KmcCut (options_of words) ≡ true

-- this is what the words ask for
pub record IsCutRequest (words : List Word) (r : CutRequest) : Type 0 where
  pub asks : AsksForCut words
  pub prefix : filter is_file_name (joined words) ≡ string_bytes r.prefix ∷ []
  pub word : Word
  pub slices_word : filter is_slices (joined words) ≡ word ∷ []
  pub slices : IsNumberOfSlices word r.params.bins r.slices
  pub given : AreGiven (found KmcCut (options_of words)) r.params
  pub signatures : HasProgramSignatures (found KmcCut (options_of words)) r.params
  pub queue : HasProgramQueue r.params
  pub force : r.force ≡ list_any is_force (joined words)

-- the options are taken by the program, and the value of this one is the first that is out of its range
pub record IsOutOfRange (program : Program) (words : List Word) (s : Setting) : Type 0 where
  pub taken : is_taken program (options_of words) ≡ true
  pub first : first_out_of_range (found program (options_of words)) ≡ Some s

-- the words are a prefix, a number of slices and options, each in its range, and the number of slices is out of its own
pub record IsSlicesOutOfRange (words : List Word) : Type 0 where
  pub asks : AsksForCut words
  pub in_range : first_out_of_range (found KmcCut (options_of words)) ≡ None
  pub none : (r : CutRequest) → IsCutRequest words r → ⊥

-- the words are names of files, at least one and at most so many, and options of the program
pub record AsksForFiles (program : Program) (most : ℕ) (words : List Word) : Type 0 where
  pub some : 1 ≤ length (filter is_file_name (joined words))
  pub few : length (filter is_file_name (joined words)) ≤ most
  pub slices : length (filter is_slices (joined words)) ≡ 0
  pub force : list_any is_force (joined words) ≡ false
  pub taken : is_taken program (options_of words) ≡ true

-- these are the settings and the files that the words ask for
pub record IsFilesRequest (program : Program) (most : ℕ) (words : List Word) (params : Params) (files : List Word) : Type 0 where
  pub asks : AsksForFiles program most words
  pub names : files ≡ filter is_file_name (joined words)
  pub given : AreGiven (found program (options_of words)) params

abbrev pub most_files : ℕ
most_files = 100000

-- the words are names of files and options of the program that lists
abbrev pub AsksForList : List Word → Type 0
AsksForList = AsksForFiles KmcList most_files

-- this is what the words ask for
abbrev pub IsListRequest : List Word → ListRequest → Type 0
IsListRequest words r = IsFilesRequest KmcList most_files words r.params (map string_bytes r.files.items)
