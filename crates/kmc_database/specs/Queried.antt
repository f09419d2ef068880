-- A query of a database: it is opened, and words are written with their counts.
use Rattle.std.specs.Prelude.{◌≡◌, ℕ, Bool, true, List, length, Option, Some}
use Rattle.std.specs.Io.KnownBytes.{Appends}
use Rattle.kmc_base.specs.declared.strands.Strands.TheVariants.{Joined, Apart}
use Rattle.kmc_lists.specs.Line.{text_of}
use Rattle.kmc_join.specs.Query.{answers_of}
use Rattle.kmc_database.specs.Opened.{IsOpenCause, IsPrefixFile}
use Rattle.kmc_database.specs.Searched.{AreGiven, IsSearchCause, IsSearched, Search}
use Rattle.kmc_database.specs.declared.form.Form.{Form}
use Rattle.kmc_database.specs.declared.opening.OpenDatabase.{OpenDatabase}
use Rattle.kmc_database.specs.declared.search_error.SearchError.{SearchError}
use Rattle.kmc_database.specs.declared.search_error.SearchError.TheVariants.{Open, OneStrand, Words, OtherLength, LookUp, Write}

-- what a prefix file tells, where its bytes are known
abbrev pub Tells : Option (List ℕ) → OpenDatabase → Type 0
Tells prefix o = (p : List ℕ) → prefix ≡ Some p → IsPrefixFile p o

-- a database was opened, with each strand by itself if that was asked for, and words were written with their counts in it
pub record IsQueried (apart : Bool) (old new : Search) (lines : ℕ) : Type 0 where
  pub opened : OpenDatabase
  pub told : Tells old.prefix opened
  pub strands : apart ≡ true → opened.strands ≡ Apart
  pub searched : IsSearched opened old new lines

-- words were read to their end, and exactly their lines were written, with the counts that these pairs have for their keys
pub record AreCounted (f : Form) (pairs : List (List ℕ × ℕ)) (old new : Search) (lines : ℕ) : Type 0 where
  pub words : List (List ℕ)
  pub given : AreGiven f.layout.k old new words
  pub text : Appends old.written new.written (text_of (answers_of f.strands pairs words))
  pub count : lines ≡ length words

-- nothing was read of the words, and nothing written
pub record AreUnused (old new : Search) : Type 0 where
  pub words : new.words ≡ old.words
  pub words_kept : new.words_failures ≡ old.words_failures
  pub written : new.written ≡ old.written
  pub kept : new.writer_failures ≡ old.writer_failures

-- each strand was asked for by itself, and the database counts both together
pub record IsOfOneStrand (apart : Bool) (old new : Search) : Type 0 where
  pub asked : apart ≡ true
  pub opened : OpenDatabase
  pub told : Tells old.prefix opened
  pub strands : opened.strands ≡ Joined
  pub reads : new.reads ≡ old.reads
  pub unused : AreUnused old new

-- a database was opened, and this is why words were not written with their counts in it
abbrev pub IsCauseBehind : Search → Search → SearchError → Type 0
IsCauseBehind old new e = (o : OpenDatabase) × Tells old.prefix o × IsSearchCause o old new e

-- why a database was not queried
abbrev pub IsQueryCause : Bool → Search → Search → SearchError → Type 0
IsQueryCause apart old new (Open e) = IsOpenCause old.prefix old.suffix old.reads new.reads e × AreUnused old new
IsQueryCause apart old new OneStrand = IsOfOneStrand apart old new
IsQueryCause apart old new (Words e) = IsCauseBehind old new (Words e)
IsQueryCause apart old new OtherLength = IsCauseBehind old new OtherLength
IsQueryCause apart old new (LookUp e) = IsCauseBehind old new (LookUp e)
IsQueryCause apart old new Write = IsCauseBehind old new Write
