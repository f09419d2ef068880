-- What a join answers.
use Rattle.std.proofs.Common.{◌≡◌, ℕ, List, Option, Result, Ok, Err, sym, subst, ◌∙◌}
use Rattle.std.specs.Result.{IsErrAnd}
use Rattle.std.specs.Prelude.{IfErr}
use Rattle.kmc_count.specs.declared.limits.Limits.{Limits}
use Rattle.kmc_device.specs.Device.{Watched}
use Rattle.kmc_device.specs.Lemmas.Devices.{on_ok_then}
use Rattle.kmc_sum.specs.Answer.{IsCause}
use Rattle.kmc_sum.specs.Sources.{failures_of, lefts_of}
use Rattle.kmc_sum.specs.declared.error.SumError.{SumError}
use Rattle.kmc_join.specs.Answer.{IsJoinAnswer}
use Rattle.kmc_join.specs.State.{IsBegun}
use Rattle.kmc_join.specs.declared.rule.JoinRule.{JoinRule}

module _ {R W : Type 0} (remaining : R → Option (List ℕ)) (contents : W → Option (List ℕ)) (rule : JoinRule) (l : Limits)
    (starts : List (Option (List ℕ))) (readers read : List (Watched R)) (writer written : Watched W) where
  -- a join that was given up
  pub given_up : (answer : Result ℕ SumError) (e : SumError) → IsErrAnd answer (λ x. x ≡ e)
      → IsCause starts (lefts_of remaining read) (failures_of readers) (failures_of read) writer.failures written.failures e
      → (k : ℕ) × IsBegun k rule l starts (lefts_of remaining read) (contents writer.inner) (contents written.inner)
      → IsJoinAnswer remaining contents rule l starts readers read writer written answer
  given_up (Ok lines) e made cause begun = absurd made
  given_up (Err d) e made cause begun = record {
    ok = tt;
    sound = tt;
    cause = subst (IsCause starts (lefts_of remaining read) (failures_of readers) (failures_of read) writer.failures written.failures) (sym made)
        cause;
    begun = begun;
  }

  -- the sources were opened before, and no read failed
  pub after_opening : (opened : List (Watched R)) (answer : Result ℕ SumError) → failures_of opened ≡ failures_of readers
      → IsJoinAnswer remaining contents rule l starts opened read writer written answer
      → IsJoinAnswer remaining contents rule l starts readers read writer written answer
  after_opening opened answer same h = record {
    ok = h.ok;
    sound = on_ok_then answer _ _ (λ s. (s.0 ∙ same, s.1)) h.sound;
    cause = subst (λ olds. IfErr answer (IsCause starts (lefts_of remaining read) olds (failures_of read) writer.failures written.failures)) same
        h.cause;
    begun = h.begun;
  }
