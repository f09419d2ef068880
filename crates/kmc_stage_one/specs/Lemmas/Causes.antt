-- What holds of a refusal, at the cause that it has.
use Rattle.std.proofs.Common.{◌≡◌, ◌≢◌, ℕ, ◌≤◌, ap, refl, arith}
use Rattle.std.specs.Prelude.{Result, Ok, Err, IfOk, OnOk, IsErrAnd}
use Rattle.kmc_stage_one.specs.Fed.{AreCountsOf}
use Rattle.kmc_reads.specs.declared.input_error.InputError.{InputError}
use Rattle.kmc_reads.specs.declared.input_error.InputError.TheVariants.{Memory, Read, Faulty, TooLong}

-- only a failed read counts as a failed call of the reader
pub kept_by : (most before after failed fails : ℕ) (e : InputError) → AreCountsOf most before after failed fails e → e ≢ Read → fails ≡ failed
kept_by most before after failed fails Memory h other = h.0
kept_by most before after failed fails Read h other = absurd (other refl)
kept_by most before after failed fails (Faulty e) h other = h.0
kept_by most before after failed fails TooLong h other = h.0

-- and no more reads than these gave bytes
pub most_by : (most before after failed fails : ℕ) (e : InputError) → AreCountsOf most before after failed fails e → after ≤ most
most_by most before after failed fails Memory h = h.2
most_by most before after failed fails Read h = omega (arith, h.2)
most_by most before after failed fails (Faulty e) h = h.2
most_by most before after failed fails TooLong h = omega (arith, h.2)

-- what follows from an answer, or from a refusal
pub on_ok_then : {A E : Type 0} (P : A → Type 0) (Q : Type 0) (r : Result A E) → ((a : A) → P a → Q) → IfOk r P → OnOk r Q
on_ok_then P Q (Ok a) go p = go a p
on_ok_then P Q (Err e) go p = tt

pub same_err : {A E : Type 0} (r : Result A E) (e : E) → IsErrAnd r (λ x. x ≡ e) → r ≡ Err e
same_err (Ok x) e is = absurd is
same_err (Err x) e is = ap Err is
