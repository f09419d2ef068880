-- What a merge answers.
use Rattle.std.specs.Prelude.{◌≡◌, ℕ, List, Option, Result, IfOk, IfErr, OnOk, OnErr}
use Rattle.kmc_count.specs.declared.limits.Limits.{Limits}
use Rattle.kmc_device.specs.Device.{Watched, RisesByOne}
use Rattle.kmc_sum.specs.Listed.{IsLength}
use Rattle.kmc_sum.specs.Refusals.{IsFaultOf, HaveTooMany}
use Rattle.kmc_sum.specs.Sources.{failures_of, lefts_of}
use Rattle.kmc_sum.specs.State.{IsBegun, IsSumWritten}
use Rattle.kmc_sum.specs.declared.error.SumError.{SumError}
use Rattle.kmc_sum.specs.declared.error.SumError.TheVariants.{Source, Write, Memory, TooLong}

-- why a merge was given up (for want of memory before anything is read or written): of the readers' bytes at the start and
-- now, and of their failures and the writer's, before and now
abbrev pub IsCause : List (Option (List ℕ)) → List (Option (List ℕ)) → List ℕ → List ℕ → ℕ → ℕ → SumError → Type 0
IsCause starts nows olds news old new (Source e) = (k : ℕ) × IsLength k × IsFaultOf k starts nows olds news e.source e.fault
IsCause starts nows olds news old new Write = RisesByOne old new
IsCause starts nows olds news old new Memory = (nows ≡ starts) × (news ≡ olds) × (new ≡ old)
IsCause starts nows olds news old new TooLong = (k : ℕ) × IsLength k × HaveTooMany k starts nows

-- a merge of readers, which had these bytes at its start, into a writer, each before and after, by its answer
pub record IsMergeAnswer {R W : Type 0} (remaining : R → Option (List ℕ)) (contents : W → Option (List ℕ)) (l : Limits)
    (starts : List (Option (List ℕ))) (readers read : List (Watched R)) (writer written : Watched W) (answer : Result ℕ SumError) : Type 0 where
  -- the dump of the sum of what the readers gave to their ends was written, and the answer is its number of lines
  pub ok : IfOk answer (λ lines. IsSumWritten l starts (lefts_of remaining read) lines (contents writer.inner) (contents written.inner))
  -- no failure was passed over
  pub sound : OnOk answer ((failures_of read ≡ failures_of readers) × (written.failures ≡ writer.failures))
  -- each refusal has its cause
  pub cause : IfErr answer (IsCause starts (lefts_of remaining read) (failures_of readers) (failures_of read) writer.failures written.failures)
  -- and leaves a front of the dump of the sum of what the readers gave first
  pub begun : OnErr answer ((k : ℕ) × IsBegun k l starts (lefts_of remaining read) (contents writer.inner) (contents written.inner))
