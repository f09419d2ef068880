-- The cause of a refusal, handed on.
use Rattle.std.proofs.Common.{◌≡◌, ℕ, List, Option, Result, Ok, Err, sym, subst}
use Rattle.std.specs.Prelude.{IfErr}
use Rattle.std.specs.Result.{IsErrAnd}
use Rattle.kmc_sum.specs.Refusals.{IsFaultOf}
use Rattle.kmc_sum.specs.declared.error.SourceFault.{SourceFault}

-- an error that a `?` hands on
pub handed_on : {T E : Type 0} (r : Result T E) (e : E) (P : E → Type 0) → IsErrAnd r (λ x. x ≡ e) → P e → IfErr r P
handed_on (Ok x) e P made h = tt
handed_on (Err d) e P made h = subst P (sym made) h

-- no read had failed before
pub fault_since : (k : ℕ) (starts nows : List (Option (List ℕ))) (olds others news : List ℕ) (source : ℕ) (fault : SourceFault) → others ≡ olds
    → IsFaultOf k starts nows others news source fault → IsFaultOf k starts nows olds news source fault
fault_since k starts nows olds others news source fault same h = subst (λ l. IsFaultOf k starts nows l news source fault) same h
