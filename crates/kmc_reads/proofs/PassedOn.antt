-- What holds of a result that is passed on as it is.
use Rattle.std.proofs.Common.{◌≡◌, Result, Ok, Err, IfErr, sym, subst}
use Rattle.std.specs.Prelude.{OnOk, OnErr}
use Rattle.std.specs.Result.{IsErrAnd}
use Rattle.std.proofs.lemmas.Result.{IfErr-at_err, err_from_is_err_and}

pub passed_on : {T U E : Type 0} (from : Result U E) (to : Result T E) (P Q : E → Type 0) (d : E) → from ≡ Err d
    → IfErr from P → IsErrAnd to (λ x. x ≡ d) → ((e : E) → P e → Q e) → IfErr to Q
passed_on from to P Q d was holds made weaker =
    let p = err_from_is_err_and to made in
    subst (λ r. IfErr r Q) (sym p.1) (weaker p.0 (subst P (sym p.2) (IfErr-at_err P was holds)))

-- what two clauses say of a success gives a third
pub on_ok_both : {T E P Q R : Type 0} (r : Result T E) → (P → Q → R) → OnOk r P → OnOk r Q → OnOk r R
on_ok_both (Ok x) f p q = f p q
on_ok_both (Err e) f p q = tt

-- what both a success and an error give
pub either_way : {T E P : Type 0} (r : Result T E) → OnOk r P → OnErr r P → P
either_way (Ok x) ok err = ok
either_way (Err e) ok err = err
