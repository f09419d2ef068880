-- The words that are asked for: a word a line.
use Rattle.std.specs.Prelude.{◌≡◌, ◌≢◌, ◌+◌, ◌≤◌, ℕ, List, [], ◌∷◌, ◌++◌, length, map, Option}
use Rattle.std.specs.Io.KnownBytes.{Consumes}
use Rattle.std.specs.List.{AllByRecursion, flat_map}
use Rattle.kmc_base.specs.Words.{IsKmer, letter}
use Rattle.kmc_device.specs.Device.{RisesByOne}
use Rattle.kmc_sum.specs.Source.{GoesOn, IsEnough}
use Rattle.kmc_join.specs.declared.query_error.QueryError.{QueryError}
use Rattle.kmc_join.specs.declared.query_error.QueryError.TheVariants.{ReadWords, NoWord, OtherLength, Unlike, Dump, Write, Memory, TooLong}

-- the letters and a line feed: ACG is `ACG`, byte 10
abbrev pub word_line : List ℕ → List ℕ
word_line w = map letter w ++ 10 ∷ []

abbrev pub words_text : List (List ℕ) → List ℕ
words_text words = flat_map word_line words

-- how long words of one length are; 0 where there is none
abbrev pub length_of : List (List ℕ) → ℕ
length_of [] = 0
length_of (w ∷ words) = length w

-- each is a word of k letters
abbrev pub AreAsked : ℕ → List (List ℕ) → Type 0
AreAsked k words = AllByRecursion (λ w. IsKmer w × (length w ≡ k)) words

-- the reader gave the lines of these words, all of one length, and then the rest
pub record GaveWords (old new : Option (List ℕ)) (words : List (List ℕ)) (rest : List ℕ) : Type 0 where
  pub each : AreAsked (length_of words) words
  pub bytes : Consumes old new (words_text words ++ rest)

-- no line of a word is a front of these bytes
abbrev pub BeginsNoWord : List ℕ → Type 0
BeginsNoWord rest = (w more : List ℕ) → IsKmer w → rest ≡ word_line w ++ more → ⊥

-- this line is none of a word: enough of it was read to tell, or the text ends
pub record IsNoWord (old new : Option (List ℕ)) (line : ℕ) : Type 0 where
  pub words : List (List ℕ)
  pub rest : List ℕ
  pub gave : GaveWords old new words rest
  pub number : line ≡ length words + 1
  pub some : rest ≢ []
  pub enough : IsEnough rest new
  pub none : BeginsNoWord rest

-- the word of this line is not as long as those before it
pub record IsOfOtherLength (old new : Option (List ℕ)) (line : ℕ) : Type 0 where
  pub words : List (List ℕ)
  pub word : List ℕ
  pub rest : List ℕ
  pub gave : GaveWords old new words (word_line word ++ rest)
  pub number : line ≡ length words + 1
  pub before : 1 ≤ length words
  pub is : IsKmer word
  pub other : length word ≢ length_of words

-- why the words were not read to their end, by the reader's number of failures before and after
abbrev pub IsWordsCause : Option (List ℕ) → Option (List ℕ) → ℕ → ℕ → QueryError → Type 0
IsWordsCause start now failed fails ReadWords = RisesByOne failed fails
IsWordsCause start now failed fails (NoWord line) = IsNoWord start now line × (fails ≡ failed)
IsWordsCause start now failed fails (OtherLength line) = IsOfOtherLength start now line × (fails ≡ failed)
IsWordsCause start now failed fails Unlike = ⊥
IsWordsCause start now failed fails (Dump fault) = ⊥
IsWordsCause start now failed fails Write = ⊥
IsWordsCause start now failed fails Memory = fails ≡ failed
IsWordsCause start now failed fails TooLong = ⊥

-- the reader went on by some bytes, and with them these begin no word
pub record GoesToNoWord (old new : Option (List ℕ)) (before : List ℕ) : Type 0 where
  pub rest : List ℕ
  pub goes : GoesOn old new before rest
  pub some : rest ≢ []
  pub enough : IsEnough rest new
  pub none : BeginsNoWord rest

-- why the word of this line was not taken
abbrev pub IsWordFault : ℕ → Option (List ℕ) → Option (List ℕ) → List ℕ → ℕ → ℕ → QueryError → Type 0
IsWordFault number old new before failed fails ReadWords = RisesByOne failed fails
IsWordFault number old new before failed fails (NoWord line) = (line ≡ number) × GoesToNoWord old new before × (fails ≡ failed)
IsWordFault number old new before failed fails (OtherLength line) = ⊥
IsWordFault number old new before failed fails Unlike = ⊥
IsWordFault number old new before failed fails (Dump fault) = ⊥
IsWordFault number old new before failed fails Write = ⊥
IsWordFault number old new before failed fails Memory = ⊥
IsWordFault number old new before failed fails TooLong = ⊥
