-- The counts that a dump has for given words.
use Rattle.std.specs.Prelude.{◌≡◌, ℕ, List, length, map, Option}
use Rattle.std.specs.Io.KnownBytes.{Appends}
use Rattle.kmc_base.specs.Strands.{key}
use Rattle.kmc_base.specs.declared.strands.Strands.{Strands}
use Rattle.kmc_device.specs.Device.{AppendsFront, GaveAll}
use Rattle.kmc_lists.specs.Line.{text_of}
use Rattle.kmc_sum.specs.Listed.{IsLength, Lists}
use Rattle.kmc_sum.specs.Sum.{listed_count}
use Rattle.kmc_join.specs.Asking.{AreAsked, words_text}

-- a word with the count that a list of pairs gives its key, which is 0 where that is none of theirs
abbrev pub with_count : Strands → List (List ℕ × ℕ) → List ℕ → List ℕ × ℕ
with_count strands pairs w = (w, listed_count pairs (key strands w))

-- each word with its count, in the order in which they are given: of (ACG, 7), strands joined, the words CGT, AAA, ACG have 7, 0, 7
abbrev pub answers_of : Strands → List (List ℕ × ℕ) → List (List ℕ) → List (List ℕ × ℕ)
answers_of strands pairs words = map (with_count strands pairs) words

-- the first reader gave to its end the text of a dump, the second words as long as those of the dump, and these are the words with their counts
pub record AreAnswers (strands : Strands) (dump_start dump_now words_start words_now : Option (List ℕ)) (answers : List (List ℕ × ℕ)) : Type 0 where
  pub k : ℕ
  pub long : IsLength k
  pub text : List ℕ
  pub gave : GaveAll dump_start dump_now text
  pub pairs : List (List ℕ × ℕ)
  pub lists : Lists k text pairs
  pub words : List (List ℕ)
  pub asked : GaveAll words_start words_now (words_text words)
  pub each : AreAsked k words
  pub are : answers ≡ answers_of strands pairs words

-- they were written, a line each: the word, a tab, its count
pub record IsQueryWritten (strands : Strands) (dump_start dump_now words_start words_now : Option (List ℕ)) (lines : ℕ)
    (old new : Option (List ℕ)) : Type 0 where
  pub answers : List (List ℕ × ℕ)
  pub are : AreAnswers strands dump_start dump_now words_start words_now answers
  pub text : Appends old new (text_of answers)
  pub count : lines ≡ length answers

-- a front of them was written
pub record IsQueryBegun (strands : Strands) (dump_start dump_now words_start words_now : Option (List ℕ)) (old new : Option (List ℕ)) : Type 0 where
  pub answers : List (List ℕ × ℕ)
  pub are : AreAnswers strands dump_start dump_now words_start words_now answers
  pub text : AppendsFront old new (text_of answers)
