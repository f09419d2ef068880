-- What two workers hand back.
use Rattle.std.proofs.Common.{◌≡◌, ap, sym, subst}
use Rattle.std.specs.Prelude.{Result, Ok, Err, MatchResult, IfErr}
use Rattle.kmc_partqueue.specs.Causes.{both, earlier}
use Rattle.kmc_partqueue.specs.declared.refusal.GivenUp.{GivenUp}
use Rattle.kmc_partqueue.specs.declared.refusal.GivenUp.TheVariants.{Memory, NumbersSpent, Stopped}

-- where both hand something back, each does
pub both_gave : {A B : Type 0} (x : Result A GivenUp) (y : Result B GivenUp) (a : A) (b : B) → Ok (a, b) ≡ both x y → (x ≡ Ok a) × (y ≡ Ok b)
both_gave {A} {B} (Ok u) (Ok v) a b e =
    let same : (a, b) ≡ (u, v) = cc in
    (ap (λ z. Ok z) (sym (ap (λ (p : A × B). p.0) same)), ap (λ z. Ok z) (sym (ap (λ (p : A × B). p.1) same)))
both_gave (Ok u) (Err f) a b e = absurd (cc)
both_gave (Err f) (Ok v) a b e = absurd (cc)
both_gave (Err f) (Err h) a b e = absurd (cc)

-- what is known of a result holds of what it has
pub of_ok : {A E : Type 0} (P : A → Type 0) (Q : E → Type 0) (r : Result A E) (a : A) → r ≡ Ok a → MatchResult r P Q → P a
of_ok P Q r a e m = subst (λ x. MatchResult x P Q) e m

-- of two causes the one that is answered is one of them
earlier_is : (P : GivenUp → Type 0) (f h : GivenUp) → P f → P h → P (earlier f h)
earlier_is P Memory h a b = a
earlier_is P NumbersSpent Memory a b = b
earlier_is P NumbersSpent NumbersSpent a b = a
earlier_is P NumbersSpent Stopped a b = a
earlier_is P Stopped h a b = b

-- what is known of the causes of both holds of the one that is answered
pub both_failed : {A B : Type 0} (P : GivenUp → Type 0) (x : Result A GivenUp) (y : Result B GivenUp) (e : GivenUp)
    → Err e ≡ both x y → IfErr x P → IfErr y P → P e
both_failed P (Ok u) (Ok v) e is a b = absurd (cc)
both_failed P (Ok u) (Err f) e is a b = let same : e ≡ f = cc in subst P (sym same) b
both_failed P (Err f) (Ok v) e is a b = let same : e ≡ f = cc in subst P (sym same) a
both_failed P (Err f) (Err h) e is a b = let same : e ≡ earlier f h = cc in subst P (sym same) (earlier_is P f h a b)

-- what is known of a result holds of its cause
pub of_cause : {A E : Type 0} (P : A → Type 0) (Q R : E → Type 0) (r : Result A E) → ((e : E) → Q e → R e) → MatchResult r P Q → IfErr r R
of_cause P Q R (Ok a) more m = tt
of_cause P Q R (Err e) more m = more e m
