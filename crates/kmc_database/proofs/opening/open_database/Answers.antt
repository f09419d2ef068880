use Rattle.kmc_sum.specs.Lemmas.Causes.{handed_on}
use Rattle.kmc_database.proofs.Opened.{opened_is, behind_prefix}
use Rattle.kmc_database.proofs.opening.open_database.Goals as goal

pub returns-in_err-database-clause-cause : goal.returns-in_err-database-clause-cause
returns-in_err-database-clause-cause g c =
    let e = c.in_err-database.field-0.0 in
    handed_on c.from_residual.result e _ c.from_residual.ensures.1
    (c.in_err-database.ensures.cause (g.S.Places.bytes c.args.suffix.now) (g.S.Places.failures c.args.suffix.now))

pub returns-in_err-check_suffix-clause-cause : goal.returns-in_err-check_suffix-clause-cause
returns-in_err-check_suffix-clause-cause g c =
    let e = c.in_err-check_suffix.field-0.0 in
    handed_on c.from_residual-in_err-check_suffix.result e _ c.from_residual-in_err-check_suffix.ensures.1
    (behind_prefix _ _ _ _ _ _ e c.in_ok-database.ensures.kept
    (c.in_err-check_suffix.ensures.cause (g.P.Places.bytes c.args.prefix.now) (g.P.Places.failures c.database_in.new.prefix)
    (λ p known. (c.in_ok-database.ensures.ok p known).end.header)))

pub returns-clause-database : goal.returns-clause-database
returns-clause-database g c = λ f pairs p s known d. opened_is f pairs p s c.in_ok-database.database d (c.in_ok-database.ensures.ok p known)
