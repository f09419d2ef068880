use Rattle.std.proofs.Common.{◌-◌, refl, Some}
use Rattle.kmc_base.specs.Lemmas.PassedOn.{no_answer, passed_on}
use Rattle.kmc_reads.specs.declared.error.ReadsError.TheVariants.{Memory}
use Rattle.kmc_stage_one.proofs.rounds.last_round.Goals as goal

pub returns-clause-holds : goal.returns-clause-holds
returns-clause-holds g c = λ format text taken held s h.
    let all = c.in-Ok.ensures.all (Some (c.args.dealing.now.settings.shape.k - 1)) format text taken s in (
      all.0,
      c.in-Ok.reads,
      all.1,
      all.2,
      c.in_ok-store_round.ensures.holds held h,
    )

pub returns-in-Err-clause-cause : goal.returns-in-Err-clause-cause
returns-in-Err-clause-cause g c = λ format text taken s.
    λ other. (c.in-Err.ensures.refused (Some (c.args.dealing.now.settings.shape.k - 1)) format text taken s other).0

pub returns-in-Err-clause-shape : goal.returns-in-Err-clause-shape
returns-in-Err-clause-shape g c = tt

pub returns-in-Err-clause-holds : goal.returns-in-Err-clause-holds
returns-in-Err-clause-holds g c = λ format text taken held s h. tt

pub returns-in_err-store_round-clause-shape : goal.returns-in_err-store_round-clause-shape
returns-in_err-store_round-clause-shape g c = no_answer _ _ c.from_residual.result c.from_residual.ensures.1

pub returns-in_err-store_round-clause-holds : goal.returns-in_err-store_round-clause-holds
returns-in_err-store_round-clause-holds g c = λ format text taken held s h. no_answer _ _ c.from_residual.result c.from_residual.ensures.1

pub returns-in_err-store_round-clause-cause : goal.returns-in_err-store_round-clause-cause
returns-in_err-store_round-clause-cause g c = λ format text taken s.
    passed_on _ c.from_residual.result Memory c.from_residual.ensures.1 (λ other. absurd (other refl))

pub returns-clause-shape : goal.returns-clause-shape
returns-clause-shape g c = c.in_ok-store_round.ensures.shape

pub returns-clause-cause : goal.returns-clause-cause
returns-clause-cause g c = λ format text taken s. tt
