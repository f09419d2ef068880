-- What a query answers.
use Rattle.std.specs.Prelude.{◌≡◌, ◌≤◌, ℕ, List, length, Option, Result, IfErr, IfOk, OnOk}
use Rattle.kmc_base.specs.declared.strands.Strands.{Strands}
use Rattle.kmc_device.specs.Device.{GaveAll, RisesByOne, Watched}
use Rattle.kmc_sum.specs.Faults.{IsFaultAt}
use Rattle.kmc_sum.specs.Listed.{IsLength}
use Rattle.kmc_sum.specs.declared.error.LineFault.TheVariants as line_fault
use Rattle.kmc_join.specs.Asking.{AreAsked, IsNoWord, IsOfOtherLength, words_text}
use Rattle.kmc_join.specs.LookedUp.{HasTooMany, IsDumpFault}
use Rattle.kmc_join.specs.Query.{IsQueryBegun, IsQueryWritten}
use Rattle.kmc_join.specs.declared.query_error.QueryError.{QueryError}
use Rattle.kmc_join.specs.declared.query_error.QueryError.TheVariants.{ReadWords, NoWord, OtherLength, Unlike, Dump, Write, Memory, TooLong}

-- what a dump and words have left, where that is known, before a query and after it, and their numbers of failures
pub record Inputs : Type 0 where
  pub dump : Option (List ℕ)
  pub words : Option (List ℕ)
  pub dump_failures : ℕ
  pub words_failures : ℕ

abbrev pub inputs_of : {D Q : Type 0} → (D → Option (List ℕ)) → (Q → Option (List ℕ)) → Watched D → Watched Q → Inputs
inputs_of left_of_dump left_of_words dump words = record {
  dump = left_of_dump dump.inner;
  words = left_of_words words.inner;
  dump_failures = dump.failures;
  words_failures = words.failures;
}

-- the words, which are read first, were read to their end, no read of them failed, and they are of this length
pub record HasAsked (old new : Inputs) (k : ℕ) : Type 0 where
  pub words : List (List ℕ)
  pub asked : GaveAll old.words new.words (words_text words)
  pub each : AreAsked k words
  pub some : 1 ≤ length words
  pub kept : new.words_failures ≡ old.words_failures

-- nothing was read of the dump
abbrev pub IsDumpUnread : Inputs → Inputs → Type 0
IsDumpUnread old new = (new.dump ≡ old.dump) × (new.dump_failures ≡ old.dump_failures)

-- no read failed
abbrev pub AreSound : Inputs → Inputs → Type 0
AreSound old new = (new.dump_failures ≡ old.dump_failures) × (new.words_failures ≡ old.words_failures)

-- why a query was given up: where the writer is at fault, a front of the answers is out, and else nothing was written
abbrev pub IsQueryCause : {W : Type 0} → (W → Option (List ℕ)) → Strands → Inputs → Inputs → Watched W → Watched W → QueryError → Type 0
IsQueryCause contents strands old new writer written ReadWords =
    RisesByOne old.words_failures new.words_failures × IsDumpUnread old new × (written ≡ writer)
IsQueryCause contents strands old new writer written (NoWord line) =
    IsNoWord old.words new.words line × (new.words_failures ≡ old.words_failures) × IsDumpUnread old new × (written ≡ writer)
IsQueryCause contents strands old new writer written (OtherLength line) =
    IsOfOtherLength old.words new.words line × (new.words_failures ≡ old.words_failures) × IsDumpUnread old new × (written ≡ writer)
IsQueryCause contents strands old new writer written Unlike =
    (k : ℕ) × HasAsked old new k × IsFaultAt k old.dump new.dump 1 line_fault.OtherLength × (written ≡ writer)
IsQueryCause contents strands old new writer written (Dump fault) =
    IsDumpFault old.dump new.dump old.dump_failures new.dump_failures fault × (new.words_failures ≡ old.words_failures) × (written ≡ writer)
IsQueryCause contents strands old new writer written Write =
    RisesByOne writer.failures written.failures × AreSound old new
    × IsQueryBegun strands old.dump new.dump old.words new.words (contents writer.inner) (contents written.inner)
IsQueryCause contents strands old new writer written Memory =
    IsDumpUnread old new × (new.words_failures ≡ old.words_failures) × (written ≡ writer)
IsQueryCause contents strands old new writer written TooLong =
    (k : ℕ) × IsLength k × HasTooMany k old.dump new.dump × AreSound old new × (written ≡ writer)

-- a query of a dump and of words, into a writer, each before and after, by its answer
pub record IsQueryAnswer {W : Type 0} (contents : W → Option (List ℕ)) (strands : Strands) (old new : Inputs) (writer written : Watched W)
    (answer : Result ℕ QueryError) : Type 0 where
  -- the words with their counts were written, and the answer is their number
  pub ok : IfOk answer (λ lines. IsQueryWritten strands old.dump new.dump old.words new.words lines (contents writer.inner) (contents written.inner))
  -- no failure was passed over
  pub sound : OnOk answer (AreSound old new × (written.failures ≡ writer.failures))
  -- each refusal has its cause
  pub cause : IfErr answer (IsQueryCause contents strands old new writer written)
