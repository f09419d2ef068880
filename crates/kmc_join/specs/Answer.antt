-- What a join answers.
use Rattle.std.specs.Prelude.{◌≡◌, ℕ, List, Option, Result, IfOk, IfErr, OnOk, OnErr}
use Rattle.kmc_count.specs.declared.limits.Limits.{Limits}
use Rattle.kmc_device.specs.Device.{Watched}
use Rattle.kmc_sum.specs.Answer.{IsCause}
use Rattle.kmc_sum.specs.Sources.{failures_of, lefts_of}
use Rattle.kmc_sum.specs.declared.error.SumError.{SumError}
use Rattle.kmc_join.specs.State.{IsBegun, IsJoinWritten}
use Rattle.kmc_join.specs.declared.rule.JoinRule.{JoinRule}

-- a join of two readers, which had these bytes at its start, into a writer, each before and after, by its answer
pub record IsJoinAnswer {R W : Type 0} (remaining : R → Option (List ℕ)) (contents : W → Option (List ℕ)) (rule : JoinRule) (l : Limits)
    (starts : List (Option (List ℕ))) (readers read : List (Watched R)) (writer written : Watched W) (answer : Result ℕ SumError) : Type 0 where
  -- the dump of the join of what the readers gave to their ends was written, and the answer is its number of lines
  pub ok : IfOk answer (λ lines. IsJoinWritten rule l starts (lefts_of remaining read) lines (contents writer.inner) (contents written.inner))
  -- no failure was passed over
  pub sound : OnOk answer ((failures_of read ≡ failures_of readers) × (written.failures ≡ writer.failures))
  -- each refusal has its cause
  pub cause : IfErr answer (IsCause starts (lefts_of remaining read) (failures_of readers) (failures_of read) writer.failures written.failures)
  -- and leaves a front of the dump of the join of what the readers gave first
  pub begun : OnErr answer
      ((k : ℕ) × IsBegun k rule l starts (lefts_of remaining read) (contents writer.inner) (contents written.inner))
