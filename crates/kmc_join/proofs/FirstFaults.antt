-- A dump behind its first line: why it is not read to its end, and how long its words are.
use Rattle.std.proofs.Common.{◌≡◌, ℕ, zero, suc, List, Option, max, inl, inr, ◌⊎◌, refl, subst, ◌∙◌, arith}
use Rattle.kmc_device.specs.Device.{Watched}
use Rattle.kmc_sum.specs.Listed.{IsLength}
use Rattle.kmc_sum.specs.Sources.{Agrees}
use Rattle.kmc_join.specs.LookedUp.{IsDumpCause, IsDumpFault, IsWalkCause}
use Rattle.kmc_join.specs.declared.query_error.QueryError.{QueryError}
use Rattle.kmc_join.specs.declared.query_error.QueryError.TheVariants.{ReadWords, NoWord, OtherLength, Unlike, Dump, Write, Memory, TooLong}

module _ {D : Type 0} (asked : ℕ) (start now : Option (List ℕ)) (dump read : Watched D) where
  -- behind the first line
  pub since_first : (k failed : ℕ) → IsLength k → failed ≡ dump.failures → (e : QueryError) → IsWalkCause k start now failed read.failures e
      → IsDumpCause asked start now dump read e
  since_first k failed long same ReadWords h = absurd h
  since_first k failed long same (NoWord line) h = absurd h
  since_first k failed long same (OtherLength line) h = absurd h
  since_first k failed long same Unlike h = absurd h
  since_first k failed long same (Dump fault) h = subst (λ n. IsDumpFault start now n read.failures fault) same h
  since_first k failed long same Write h = absurd h
  since_first k failed long same Memory h = absurd h
  since_first k failed long same TooLong h = (k, long, h.0, h.1 ∙ same)

-- the length of the words that were found
pub found_agrees : (found : ℕ) → Agrees found (max found 1)
found_agrees zero = inl refl
found_agrees (suc n) = inr (omega arith)

-- it agrees with the length that was asked for
pub asked_agrees : (asked found : ℕ) → (asked ≡ 0) ⊎ (found ≡ asked) → Agrees asked (max found 1)
asked_agrees zero found h = inl refl
asked_agrees (suc n) found (inl none) = absurd (omega (arith, none))
asked_agrees (suc n) found (inr same) = inr (omega (arith, same))
