-- The counts that a database has for given words, found in its files where they stand.
use Rattle.std.specs.Prelude.{◌≡◌, ◌≢◌, ℕ, ◌≤◌, List, ◌++◌, Contains, length, Option, Some}
use Rattle.std.specs.Io.KnownBytes.{Appends}
use Rattle.kmc_base.specs.Strands.{key}
use Rattle.kmc_count.specs.Dump.{words_of}
use Rattle.kmc_device.specs.Device.{AppendsFront, GaveAll, RisesByOne, Watched}
use Rattle.kmc_lists.specs.Line.{text_of}
use Rattle.kmc_join.specs.Asking.{AreAsked, IsWordsCause, length_of, words_text}
use Rattle.kmc_join.specs.Query.{answers_of}
use Rattle.kmc_database.specs.Files.{IsDatabase}
use Rattle.kmc_database.specs.LookedUp.{IsHeaderIn, IsLookUpCause, Reads}
use Rattle.kmc_database.specs.declared.form.Form.{Form}
use Rattle.kmc_database.specs.declared.opening.OpenDatabase.{OpenDatabase}
use Rattle.kmc_database.specs.declared.search_error.SearchError.{SearchError}
use Rattle.kmc_database.specs.declared.search_error.SearchError.TheVariants.{Open, OneStrand, Words, OtherLength, LookUp, Write}

-- these are the words, each with a number: the count that the database lists for the word's key, where its files are known
pub record AreFound (o : OpenDatabase) (prefix suffix : Option (List ℕ)) (words : List (List ℕ)) (answers : List (List ℕ × ℕ)) : Type 0 where
  pub each : words_of answers ≡ words
  pub counts : (f : Form) (pairs : List (List ℕ × ℕ)) (p s : List ℕ) → prefix ≡ Some p → suffix ≡ Some s → IsDatabase f pairs p s
      → IsHeaderIn p o.header → answers ≡ answers_of o.strands pairs words

-- they were written, a line each: the word, a tab, its count
pub record AreWritten (o : OpenDatabase) (prefix suffix : Option (List ℕ)) (words : List (List ℕ)) (old new : Option (List ℕ)) : Type 0 where
  pub answers : List (List ℕ × ℕ)
  pub found : AreFound o prefix suffix words answers
  pub text : Appends old new (text_of answers)

-- a front of the lines of the first words was written
pub record AreBegun (o : OpenDatabase) (prefix suffix : Option (List ℕ)) (words : List (List ℕ)) (old new : Option (List ℕ)) : Type 0 where
  pub front : List (List ℕ)
  pub rest : List (List ℕ)
  pub is : front ++ rest ≡ words
  pub answers : List (List ℕ × ℕ)
  pub found : AreFound o prefix suffix front answers
  pub text : AppendsFront old new (text_of answers)

-- what is known of the files of a database, of words and of a writer: what the files hold, what the words have left, what the writer holds,
-- and how many calls of each failed
pub record Search : Type 0 where
  pub prefix : Option (List ℕ)
  pub suffix : Option (List ℕ)
  pub words : Option (List ℕ)
  pub written : Option (List ℕ)
  pub reads : Reads
  pub words_failures : ℕ
  pub writer_failures : ℕ

-- the words were read to their end
pub record AreGiven (k : ℕ) (old new : Search) (words : List (List ℕ)) : Type 0 where
  pub asked : GaveAll old.words new.words (words_text words)
  pub each : AreAsked k words
  pub kept : new.words_failures ≡ old.words_failures

-- words as long as those of the database were read and written with their counts
pub record IsSearched (o : OpenDatabase) (old new : Search) (lines : ℕ) : Type 0 where
  pub words : List (List ℕ)
  pub given : AreGiven o.header.layout.k old new words
  pub out : AreWritten o old.prefix old.suffix words old.written new.written
  pub count : lines ≡ length words
  pub reads : new.reads ≡ old.reads
  pub kept : new.writer_failures ≡ old.writer_failures

-- why the words were not written with their counts, once they were read
abbrev pub IsFindingCause : OpenDatabase → List (List ℕ) → Search → Search → SearchError → Type 0
IsFindingCause o words old new (Open e) = ⊥
IsFindingCause o words old new OneStrand = ⊥
IsFindingCause o words old new (Words e) = ⊥
IsFindingCause o words old new OtherLength = ⊥
IsFindingCause o words old new (LookUp e) =
    ((w : List ℕ) × Contains words w × IsLookUpCause o.header (key o.strands w) old.prefix old.suffix old.reads new.reads e)
    × (new.writer_failures ≡ old.writer_failures)
IsFindingCause o words old new Write = (new.reads ≡ old.reads) × RisesByOne old.writer_failures new.writer_failures

-- the words were read, and this is why they were not written with their counts: a front of the answers is out
pub record IsLeftOff (o : OpenDatabase) (old new : Search) (e : SearchError) : Type 0 where
  pub words : List (List ℕ)
  pub given : AreGiven o.header.layout.k old new words
  pub cause : IsFindingCause o words old new e
  pub begun : AreBegun o old.prefix old.suffix words old.written new.written

-- the words are not as long as those of the database
pub record AreOfOtherLength (o : OpenDatabase) (old new : Search) : Type 0 where
  pub words : List (List ℕ)
  pub given : AreGiven (length_of words) old new words
  pub some : 1 ≤ length words
  pub other : length_of words ≢ o.header.layout.k

-- nothing was read of the files, and nothing written
pub record IsIdle (old new : Search) : Type 0 where
  pub reads : new.reads ≡ old.reads
  pub written : new.written ≡ old.written
  pub kept : new.writer_failures ≡ old.writer_failures

-- why words were not looked up in an opened database
abbrev pub IsSearchCause : OpenDatabase → Search → Search → SearchError → Type 0
IsSearchCause o old new (Open e) = ⊥
IsSearchCause o old new OneStrand = ⊥
IsSearchCause o old new (Words e) = IsWordsCause old.words new.words old.words_failures new.words_failures e × IsIdle old new
IsSearchCause o old new OtherLength = AreOfOtherLength o old new × IsIdle old new
IsSearchCause o old new (LookUp e) = IsLeftOff o old new (LookUp e)
IsSearchCause o old new Write = IsLeftOff o old new Write

-- what is known of these
abbrev pub search_of : {P S Q W : Type 0} → (P → Option (List ℕ)) → (P → ℕ) → (S → Option (List ℕ)) → (S → ℕ) → (Q → Option (List ℕ))
    → (W → Option (List ℕ)) → P → S → Watched Q → Watched W → Search
search_of prefix_bytes prefix_failures suffix_bytes suffix_failures remaining contents prefix suffix words writer = record {
  prefix = prefix_bytes prefix;
  suffix = suffix_bytes suffix;
  words = remaining words.inner;
  written = contents writer.inner;
  reads = record { prefix = prefix_failures prefix; suffix = suffix_failures suffix };
  words_failures = words.failures;
  writer_failures = writer.failures;
}
