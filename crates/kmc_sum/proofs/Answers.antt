-- What a merge answers.
use Rattle.std.proofs.Common.{◌≡◌, ℕ, List, Option, Result, Ok, Err, refl, sym, subst, ◌∙◌}
use Rattle.std.specs.Result.{IsErrAnd}
use Rattle.std.specs.Prelude.{IfErr}
use Rattle.kmc_count.specs.declared.limits.Limits.{Limits}
use Rattle.kmc_device.specs.Device.{Watched, HasFailed}
use Rattle.kmc_device.specs.Lemmas.Devices.{on_ok_then}
use Rattle.kmc_sum.specs.Answer.{IsCause, IsMergeAnswer}
use Rattle.kmc_sum.specs.Refusals.{IsFaultOf, IsFirstLineFault}
use Rattle.kmc_sum.specs.Sources.{failures_of, lefts_of}
use Rattle.kmc_sum.specs.State.{IsBegun}
use Rattle.kmc_sum.specs.declared.error.LineFault.{LineFault}
use Rattle.kmc_sum.specs.declared.error.SumError.{SumError}
use Rattle.kmc_sum.specs.declared.error.SourceFault.{SourceFault}
use Rattle.kmc_sum.specs.declared.error.SourceFault.TheVariants.{Line, Read}

-- a source by how it is at fault
pub by_fault : (k : ℕ) (starts nows : List (Option (List ℕ))) (olds news : List ℕ) (source : ℕ) (fault : SourceFault)
    → ((line : ℕ) (f : LineFault) → fault ≡ Line line f → IsFirstLineFault k starts nows source line f) → (fault ≡ Read → HasFailed source olds news)
    → IsFaultOf k starts nows olds news source fault
by_fault k starts nows olds news source Read first read = read refl
by_fault k starts nows olds news source (Line line f) first read = first line f refl

module _ {R W : Type 0} (remaining : R → Option (List ℕ)) (contents : W → Option (List ℕ)) (l : Limits) (starts : List (Option (List ℕ)))
    (readers read : List (Watched R)) (writer written : Watched W) where
  -- a merge that was given up
  pub given_up : (answer : Result ℕ SumError) (e : SumError) → IsErrAnd answer (λ x. x ≡ e)
      → IsCause starts (lefts_of remaining read) (failures_of readers) (failures_of read) writer.failures written.failures e
      → (k : ℕ) × IsBegun k l starts (lefts_of remaining read) (contents writer.inner) (contents written.inner)
      → IsMergeAnswer remaining contents l starts readers read writer written answer
  given_up (Ok lines) e made cause begun = absurd made
  given_up (Err d) e made cause begun = record {
    ok = tt;
    sound = tt;
    cause = subst (IsCause starts (lefts_of remaining read) (failures_of readers) (failures_of read) writer.failures written.failures) (sym made)
        cause;
    begun = begun;
  }

  -- the sources were opened before, and no read failed
  pub after_opening : (opened : List (Watched R)) (answer : Result ℕ SumError) → failures_of opened ≡ failures_of readers
      → IsMergeAnswer remaining contents l starts opened read writer written answer → IsMergeAnswer remaining contents l starts readers read writer
      written answer
  after_opening opened answer same h = record {
    ok = h.ok;
    sound = on_ok_then answer _ _ (λ s. (s.0 ∙ same, s.1)) h.sound;
    cause = subst (λ olds. IfErr answer (IsCause starts (lefts_of remaining read) olds (failures_of read) writer.failures written.failures)) same
        h.cause;
    begun = h.begun;
  }
