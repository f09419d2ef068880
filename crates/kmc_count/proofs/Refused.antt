-- What is left to say where a call is refused.
use Rattle.std.proofs.Common.{◌≡◌, ℕ, Result, Ok, Err}
use Rattle.std.specs.Result.{OnOk, IsErr, IsErrAnd}
use Rattle.std.proofs.lemmas.Result.{IfOk-from_err, err_from_is_err_and}
use Rattle.kmc_record.specs.declared.fault.RecordFault.{RecordFault}
use Rattle.kmc_record.specs.declared.fault.BodyError.{BodyError}
use Rattle.kmc_record.specs.declared.fault.BodyError.TheVariants.{Memory, Damaged}

-- a refused call says nothing of what it would have given
pub refused : {T E : Type 0} (P : Type 0) (r : Result T E) → IsErr r → OnOk r P
refused P r is = IfOk-from_err r (λ _. P) is

-- what is given is no error
pub given : {T E : Type 0} (P : Type 0) (x : T) (d : E) → Ok x ≡ Err d → P
given P x d is = absurd (cc)

-- want of memory is no damage
pub no_damage : {T : Type 0} (P : Type 0) (r : Result T BodyError) (fault : RecordFault) (offset : ℕ) → IsErrAnd r (λ e. e ≡ Memory)
    → r ≡ Err (Damaged fault offset) → P
no_damage P r fault offset made is =
    let p = err_from_is_err_and r made in
    absurd (cc (p.1, p.2, is))
