-- What the words of a command line ask for, and what was written.
use Rattle.std.specs.Prelude.{◌≡◌, ◌≢◌, ◌⊎◌, ℕ, List, true, false, length, Option, Some, None}
use Rattle.kmc_base.specs.declared.strands.Strands.{Strands}
use Rattle.kmc_options.specs.Words.{Word}
use Rattle.kmc_count.specs.declared.limits.Limits.{Limits}
use Rattle.kmc_device.specs.Device.{Watched}
use Rattle.kmc_sum.specs.Answer.{IsCause}
use Rattle.kmc_sum.specs.declared.error.SumError.{SumError}
use Rattle.kmc_join.specs.Histogram.{IsHistogramWritten}
use Rattle.kmc_join.specs.Query.{IsQueryWritten}
use Rattle.kmc_join.specs.QueryAnswer.{Inputs, IsQueryCause}
use Rattle.kmc_join.specs.QueryWords.{query_strands}
use Rattle.kmc_join.specs.Request.{Explains, IsRequest}
use Rattle.kmc_join.specs.State.{IsBegun, IsJoinWritten}
use Rattle.kmc_join.specs.Table.{IsTableWritten}
use Rattle.kmc_join.specs.TableWords.{table_cap}
use Rattle.kmc_join.specs.Tabulation.{IsTableCause}
use Rattle.kmc_join.specs.Tally.{IsHistogramCause}
use Rattle.kmc_join.specs.Words.{asks_for_histogram}
use Rattle.kmc_join.specs.declared.query_error.QueryError.{QueryError}
use Rattle.kmc_join.specs.declared.rule.JoinRule.{JoinRule}
use Rattle.kmc_join.specs.declared.request.JoinRequestError.{JoinRequestError}

-- the words ask for an operation on two files within limits, and two readers gave bytes
pub record AreRead (words : List Word) : Type 0 where
  pub rule : JoinRule
  pub limits : Limits
  pub files : List Word
  pub request : IsRequest words rule limits files
  pub starts : List (Option (List ℕ))
  pub nows : List (Option (List ℕ))
  pub each : length starts ≡ length files

-- the dump of the join of what the readers gave for the words was written
pub record IsAnswered (words : List Word) (old new : Option (List ℕ)) : Type 0 where
  pub read : AreRead words
  pub lines : ℕ
  pub written : IsJoinWritten read.rule read.limits read.starts read.nows lines old new

-- the join for the words was given up for a cause, by the readers' numbers of failures before and after, and a front of the dump of the
-- join of what they gave first was written
pub record IsGivenUp {W : Type 0} (words : List Word) (contents : W → Option (List ℕ)) (writer written : Watched W) : Type 0 where
  pub read : AreRead words
  pub olds : List ℕ
  pub news : List ℕ
  pub error : SumError
  pub cause : IsCause read.starts read.nows olds news writer.failures written.failures error
  pub k : ℕ
  pub begun : IsBegun k read.rule read.limits read.starts read.nows (contents writer.inner) (contents written.inner)

-- the words ask for a histogram, and that of what a reader gave was written
pub record IsHistogramAnswered (words : List Word) (old new : Option (List ℕ)) : Type 0 where
  pub asks : asks_for_histogram words ≡ true
  pub start : Option (List ℕ)
  pub now : Option (List ℕ)
  pub written : IsHistogramWritten start now old new

-- the words ask for a histogram, which was given up for a cause, by the reader's number of failures before and after
pub record IsHistogramGivenUp {W : Type 0} (words : List Word) (contents : W → Option (List ℕ)) (writer written : Watched W) : Type 0 where
  pub asks : asks_for_histogram words ≡ true
  pub starts : List (Option (List ℕ))
  pub nows : List (Option (List ℕ))
  pub olds : List ℕ
  pub news : List ℕ
  pub error : SumError
  pub cause : IsHistogramCause contents starts nows olds news writer written error

-- the words ask for a table of two files, and two readers gave bytes
pub record AreTabled (words : List Word) : Type 0 where
  pub cap : ℕ
  pub asks : table_cap words ≡ Some cap
  pub starts : List (Option (List ℕ))
  pub nows : List (Option (List ℕ))
  pub two : length starts ≡ 2

-- the table of what the readers gave for the words was written
pub record IsTableAnswered (words : List Word) (old new : Option (List ℕ)) : Type 0 where
  pub read : AreTabled words
  pub written : IsTableWritten read.cap read.starts read.nows old new

-- the table for the words was given up for a cause, by the readers' numbers of failures before and after
pub record IsTableGivenUp {W : Type 0} (words : List Word) (contents : W → Option (List ℕ)) (writer written : Watched W) : Type 0 where
  pub read : AreTabled words
  pub olds : List ℕ
  pub news : List ℕ
  pub error : SumError
  pub cause : IsTableCause contents read.cap read.starts read.nows olds news writer written error

-- the words ask for the counts of words, and a dump and words were read
pub record AreQueried (words : List Word) : Type 0 where
  pub strands : Strands
  pub asks : query_strands words ≡ Some strands
  pub before : Inputs
  pub after : Inputs

-- the words that were read were written with their counts in the dump
pub record IsQueryAnswered (words : List Word) (old new : Option (List ℕ)) : Type 0 where
  pub read : AreQueried words
  pub lines : ℕ
  pub written : IsQueryWritten read.strands read.before.dump read.after.dump read.before.words read.after.words lines old new

-- the query was given up for a cause
pub record IsQueryGivenUp {W : Type 0} (words : List Word) (contents : W → Option (List ℕ)) (writer written : Watched W) : Type 0 where
  pub read : AreQueried words
  pub error : QueryError
  pub cause : IsQueryCause contents read.strands read.before read.after writer written error

-- what the words ask for was written
abbrev pub IsDone : List Word → Option (List ℕ) → Option (List ℕ) → Type 0
IsDone words old new =
    IsAnswered words old new ⊎ (IsHistogramAnswered words old new ⊎ (IsTableAnswered words old new ⊎ IsQueryAnswered words old new))

-- it was given up for a cause
abbrev pub IsLeft : {W : Type 0} → List Word → (W → Option (List ℕ)) → Watched W → Watched W → Type 0
IsLeft words contents writer written =
    IsGivenUp words contents writer written ⊎ (IsHistogramGivenUp words contents writer written
    ⊎ (IsTableGivenUp words contents writer written ⊎ IsQueryGivenUp words contents writer written))

-- the words ask for nothing, and so for no join
pub record AskForNothing (words : List Word) (e : JoinRequestError) : Type 0 where
  pub told : e ≢ JoinRequestError.Memory
  pub histogram : asks_for_histogram words ≡ false
  pub table : table_cap words ≡ None
  pub query : query_strands words ≡ None
  pub join : Explains words e
