use Rattle.kmc_record.specs.Shapes.{Sizes}
use Rattle.std.proofs.Common.{ℕ, List, [], ◌∷◌, ◌++◌, map, sym, subst, arith}
use Rattle.std.proofs.lemmas.Grind.{common_steps, elements}
use Rattle.std.specs.Prelude.{IfOk}
use Rattle.std.specs.List.{AllZip}
use Rattle.kmc_stage_one.specs.Shards.{IsShard}
use Rattle.kmc_base.specs.Lemmas.PassedOn.{no_answer, passed_on}
use Rattle.kmc_stage_one.specs.Splitters.{IsDone}
use Rattle.kmc_stage_one.specs.Causes.{IsWorkersCause}
use Rattle.kmc_stage_one.specs.StorerCauses.{IsStorersCause}
use Rattle.kmc_partqueue.specs.declared.refusal.GivenUp.{GivenUp}
use Rattle.kmc_partqueue.specs.declared.refusal.GivenUp.TheVariants.{Memory, NumbersSpent, Stopped}
use Rattle.kmc_partqueue.specs.Lemmas.Both.{both_gave, both_failed, of_ok, of_cause}
use Rattle.kmc_partqueue.specs.Lemmas.Zips.{zip_more}
use Rattle.kmc_stage_one.proofs.workers.+store_all.Goals as goal

-- what makes a storer end makes the workers end
storers_cause : (shape : Sizes) (batch : ℕ) (reads : List (List ℕ)) (sp : ℕ) (e : GivenUp) → IsStorersCause e → IsWorkersCause shape batch reads sp e
storers_cause shape batch reads sp NumbersSpent h = absurd h
storers_cause shape batch reads sp Memory h = tt
storers_cause shape batch reads sp Stopped h = tt

pub returns-in_err-done-clause-done : goal.returns-in_err-done-clause-done
returns-in_err-done-clause-done g t c = no_answer _ _ c.from_residual.result c.from_residual.ensures.1

pub returns-in_err-done-clause-shards : goal.returns-in_err-done-clause-shards
returns-in_err-done-clause-shards g t c = no_answer _ _ c.from_residual.result c.from_residual.ensures.1

pub returns-in_err-done-clause-cause : goal.returns-in_err-done-clause-cause
returns-in_err-done-clause-cause g t c =
    let a = c.args in
    passed_on (IsWorkersCause a.plan.shape a.plan.batch (map (λ v. v.now) a.reads.now) a.way.now.writers) c.from_residual.result
    c.in_err-done.field-0.0 c.from_residual.ensures.1 c.in_err-done.ensures

pub returns-in_err-child-clause-done : goal.returns-in_err-child-clause-done
returns-in_err-child-clause-done g t c = no_answer _ _ c.from_residual-in_err-child.result c.from_residual-in_err-child.ensures.1

pub returns-in_err-child-clause-shards : goal.returns-in_err-child-clause-shards
returns-in_err-child-clause-shards g t c = no_answer _ _ c.from_residual-in_err-child.result c.from_residual-in_err-child.ensures.1

pub returns-in_err-child-clause-cause : goal.returns-in_err-child-clause-cause
returns-in_err-child-clause-cause g t c =
    let a = c.args in let back = c.from_residual-in_err-child in
    let P = IsWorkersCause a.plan.shape a.plan.batch (map (λ v. v.now) a.reads.now) a.way.now.writers in
    passed_on P back.result c.in_err-child.field-0.0 back.ensures.1 (subst P (sym c.in_err-child.ensures.cause) tt)

pub returns-in_err-others-clause-done : goal.returns-in_err-others-clause-done
returns-in_err-others-clause-done g t c = no_answer _ _ c.from_residual-in_err-others.result c.from_residual-in_err-others.ensures.1

pub returns-in_err-others-clause-shards : goal.returns-in_err-others-clause-shards
returns-in_err-others-clause-shards g t c = no_answer _ _ c.from_residual-in_err-others.result c.from_residual-in_err-others.ensures.1

pub returns-in_err-with_one-clause-done : goal.returns-in_err-with_one-clause-done
returns-in_err-with_one-clause-done g t c = no_answer _ _ c.from_residual-in_err-with_one.result c.from_residual-in_err-with_one.ensures.1

pub returns-in_err-with_one-clause-shards : goal.returns-in_err-with_one-clause-shards
returns-in_err-with_one-clause-shards g t c = no_answer _ _ c.from_residual-in_err-with_one.result c.from_residual-in_err-with_one.ensures.1

pub returns-in_err-with_one-clause-cause : goal.returns-in_err-with_one-clause-cause
returns-in_err-with_one-clause-cause g t c =
    let a = c.args in let back = c.from_residual-in_err-with_one in
    passed_on (IsWorkersCause a.plan.shape a.plan.batch (map (λ v. v.now) a.reads.now) a.way.now.writers) back.result Memory back.ensures.1 tt

pub store_all-rest-requires-clause-writers : goal.store_all-rest-requires-clause-writers
store_all-rest-requires-clause-writers g t c κs within = c.requires.writers

pub returns-clause-cause : goal.returns-clause-cause
returns-clause-cause g t c = tt

pub returns-in_default-clause-done : goal.returns-in_default-clause-done
returns-in_default-clause-done g t c = c.in_ok-done.ensures

pub returns-clause-shards : goal.returns-clause-shards
returns-clause-shards g t c =
    let a = c.args in let both = c.in_ok-others.others in let shards = both.1.items in let own = c.in_ok-others.own in
    let P = IsShard in
    let gave = both_gave c.store_all-rest.result c.join.result both own c.in_ok-others.ensures in
    let rest = subst (λ r. IfOk r (λ q. AllZip P c.pop.new.self.items q.1.items)) gave.0 c.store_all-rest.ensures.shards in
    let told = subst (λ z. P z own) c.in_ok-child.ensures.takes (of_ok _ _ c.join.result own gave.1 c.join.ensures) in
    subst (AllZip P a.seats.shards.items) (sym c.in_ok-with_one.ensures) (subst (λ z. AllZip P z (shards ++ own ∷ [])) (sym c.in-Some.ensures.items)
    (zip_more P c.pop.new.self.items shards c.in-Some.shard own rest told))

pub store_all-rest-requires-clause-shards : goal.store_all-rest-requires-clause-shards
store_all-rest-requires-clause-shards g t c κs within = grind (arith, common_steps)

pub start_storer-requires : goal.start_storer-requires
start_storer-requires g t c = grind (arith, elements)

pub returns-clause-done : goal.returns-clause-done
returns-clause-done g t c =
    let a = c.args in let both = c.in_ok-others.others in
    let P = IsDone a.plan.shape a.plan.batch (map (λ v. v.now) a.reads.now) a.way.now.writers in
    let gave = both_gave c.store_all-rest.result c.join.result both c.in_ok-others.own c.in_ok-others.ensures in
    subst (λ r. IfOk r (λ q. AllZip P a.seats.writers.items q.0.items)) gave.0 c.store_all-rest.ensures.done

pub returns-in_err-others-clause-cause : goal.returns-in_err-others-clause-cause
returns-in_err-others-clause-cause g t c =
    let a = c.args in let back = c.from_residual-in_err-others in let cause = c.in_err-others.field-0.0 in
    let P = IsWorkersCause a.plan.shape a.plan.batch (map (λ v. v.now) a.reads.now) a.way.now.writers in
    let storers : (e : GivenUp) → IsStorersCause e → P e = λ e. storers_cause a.plan.shape a.plan.batch (map (λ v. v.now) a.reads.now) a.way.now.writers e in
    passed_on P back.result cause back.ensures.1
    (both_failed P c.store_all-rest.result c.join.result cause c.in_err-others.ensures c.store_all-rest.ensures.cause
    (of_cause _ _ P c.join.result storers c.join.ensures))
