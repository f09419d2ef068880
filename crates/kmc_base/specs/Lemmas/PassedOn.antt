-- A refusal that is passed on has what the first one had, and is no answer.
use Rattle.std.proofs.Common.{◌≡◌, refl, sym, subst}
use Rattle.std.specs.Prelude.{Result, Ok, Err, IfErr, IfOk, OnOk, IsErrAnd}

pub passed_on : {A E : Type 0} (P : E → Type 0) (r : Result A E) (e : E) → IsErrAnd r (λ x. x ≡ e) → P e → IfErr r P
passed_on P (Ok x) e is h = absurd is
passed_on P (Err x) e is h = subst P (sym is) h

-- what is known of a result holds of its cause
pub of_err : {A E : Type 0} (P : E → Type 0) (r : Result A E) (e : E) → r ≡ Err e → IfErr r P → P e
of_err P r e is h = subst (λ x. IfErr x P) is h

-- where a refusal is passed on there is no answer
pub no_answer : {A E : Type 0} (P : A → Type 0) (Q : E → Type 0) (r : Result A E) → IsErrAnd r Q → IfOk r P
no_answer P Q (Ok x) is = absurd is
no_answer P Q (Err x) is = tt

pub not_ok : {A E : Type 0} (P : Type 0) (Q : E → Type 0) (r : Result A E) → IsErrAnd r Q → OnOk r P
not_ok P Q (Ok x) is = absurd is
not_ok P Q (Err x) is = tt

-- what is passed on is the cause
pub cause_of : {A E : Type 0} (r : Result A E) (e cause : E) → IsErrAnd r (λ x. x ≡ e) → r ≡ Err cause → e ≡ cause
cause_of r e cause passed is = sym (of_err (λ x. x ≡ e) r cause is (passed_on (λ x. x ≡ e) r e passed refl))
