use Rattle.std.proofs.Common.{◌≡◌, ℕ, List, [], ◌∷◌, ◌++◌, map, sym, subst, arith}
use Rattle.std.proofs.lemmas.Grind.{elements}
use Rattle.std.specs.Prelude.{Result, Ok, Err, MatchResult, IsErrAnd}
use Rattle.std.specs.List.{AllZip}
use Rattle.kmc_record.specs.Shapes.{Sizes}
use Rattle.kmc_record.specs.Parts.{Parcel}
use Rattle.kmc_partqueue.specs.Counts.{Each}
use Rattle.kmc_partqueue.specs.Seats.{WriterState}
use Rattle.kmc_stage_one.specs.Causes.{IsWorkersCause}
use Rattle.kmc_stage_one.specs.Splitters.{IsDone, IsFreshWriter}
use Rattle.kmc_partqueue.specs.Lemmas.Both.{both_gave, both_failed, of_ok, of_cause}
use Rattle.kmc_partqueue.specs.Lemmas.Zips.{zip_more}
use Rattle.kmc_partqueue.specs.declared.refusal.GivenUp.{GivenUp}
use Rattle.kmc_partqueue.specs.declared.refusal.GivenUp.TheVariants.{Memory}
use Rattle.kmc_stage_one.proofs.splitters.+split_all.Goals as goal

each_front : {A : Type 0} (P : A → Type 0) (xs : List A) (x : A) → Each P (xs ++ x ∷ []) → Each P xs
each_front P [] x each = tt
each_front P (y ∷ xs) x each = (each.0, each_front P xs x each.1)

-- the cause that is passed on is told
told_cause : {A E : Type 0} (P : A → Type 0) (Q : E → Type 0) (r : Result A E) (e : E) → IsErrAnd r (λ x. x ≡ e) → Q e → MatchResult r P Q
told_cause P Q (Ok x) e is cause = absurd is
told_cause P Q (Err x) e is cause = subst Q (sym is) cause

-- what was promised of these, and what is asked of those that equal them
module _ (shape shape' : Sizes) (batch batch' : ℕ) (reads reads' : List (List ℕ)) (sp sp' : ℕ) (is : shape ≡ shape') (size : batch ≡ batch')
    (same : reads ≡ reads') (many : sp ≡ sp') where
  kept_cause : (e : GivenUp) → IsWorkersCause shape batch reads sp e → IsWorkersCause shape' batch' reads' sp' e
  kept_cause e h = subst (λ (s : Sizes). IsWorkersCause s batch' reads' sp' e) is (subst (λ (b : ℕ). IsWorkersCause shape b reads' sp' e) size
      (subst (λ (r : List (List ℕ)). IsWorkersCause shape batch r sp' e) same (subst (λ (n : ℕ). IsWorkersCause shape batch reads n e) many h)))

  kept_done : (s s' d : WriterState Parcel) → s ≡ s' → IsDone shape batch reads sp s d → IsDone shape' batch' reads' sp' s' d
  kept_done s s' d seat h = subst (λ (q : WriterState Parcel). IsDone shape' batch' reads' sp' q d) seat
      (subst (λ (z : Sizes). IsDone z batch' reads' sp' s d) is (subst (λ (b : ℕ). IsDone shape b reads' sp' s d) size
      (subst (λ (r : List (List ℕ)). IsDone shape batch r sp' s d) same (subst (λ (n : ℕ). IsDone shape batch reads n s d) many h))))

pub returns-in_err-child : goal.returns-in_err-child
returns-in_err-child g t c =
    let a = c.args in
    let Q = IsWorkersCause a.plan.shape a.plan.batch (map (λ v. v.now) a.reads.now) a.way.now.writers in
    told_cause _ Q c.from_residual.result c.in_err-child.field-0.0 c.from_residual.ensures.1 (subst Q (sym c.in_err-child.ensures.cause) tt)

pub returns-in_err-done : goal.returns-in_err-done
returns-in_err-done g t c =
    let a = c.args in let p = c.in_ok-child.child.promise in let e = c.in_ok-child.ensures.puts in
    let back = c.from_residual-in_err-done in let cause = c.in_err-done.field-0.0 in
    let Q = IsWorkersCause a.plan.shape a.plan.batch (map (λ v. v.now) a.reads.now) a.way.now.writers in
    told_cause _ Q back.result cause back.ensures.1
    (both_failed Q c.split_all-rest.result c.join.result cause c.in_err-done.ensures
    (of_cause _ Q Q c.split_all-rest.result (λ e h. h) c.split_all-rest.ensures)
    (of_cause _ _ Q c.join.result (kept_cause p.shape a.plan.shape p.batch a.plan.batch (map (λ v. v.now) p.reads.now) (map (λ v. v.now) a.reads.now)
    p.writers a.way.now.writers e.1 e.2 e.3 e.4) c.join.ensures))

pub returns-in_err-with_one : goal.returns-in_err-with_one
returns-in_err-with_one g t c =
    let a = c.args in let back = c.from_residual-in_err-with_one in
    let Q = IsWorkersCause a.plan.shape a.plan.batch (map (λ v. v.now) a.reads.now) a.way.now.writers in
    told_cause _ Q back.result Memory back.ensures.1 tt

pub returns : goal.returns
returns g t c =
    let a = c.args in let done = c.in_ok-done.done in let own = c.in_ok-done.own in
    let P = IsDone a.plan.shape a.plan.batch (map (λ v. v.now) a.reads.now) a.way.now.writers in
    let gave = both_gave c.split_all-rest.result c.join.result done own c.in_ok-done.ensures in
    let p = c.in_ok-child.child.promise in let e = c.in_ok-child.ensures.puts in
    let told = kept_done p.shape a.plan.shape p.batch a.plan.batch (map (λ v. v.now) p.reads.now) (map (λ v. v.now) a.reads.now) p.writers a.way.now.writers
    e.1 e.2 e.3 e.4 p.seat.value c.in-Some.seat own e.0 (of_ok _ _ c.join.result own gave.1 c.join.ensures) in
    subst (AllZip P a.seats.items) (sym c.in_ok-with_one.ensures) (subst (λ z. AllZip P z (done.items ++ own ∷ [])) (sym c.in-Some.ensures.items)
    (zip_more P c.pop.new.self.items done.items c.in-Some.seat own (of_ok _ _ c.split_all-rest.result done gave.0 c.split_all-rest.ensures) told))

pub split_all-rest-requires-after_bounds : goal.split_all-rest-requires-after_bounds
split_all-rest-requires-after_bounds g t c κs within =
    let Fresh = IsFreshWriter c.args.way.now.lanes.table.shared.table_id c.args.way.now.lanes.shape in
    each_front Fresh c.pop.new.self.items c.in-Some.seat (subst (Each Fresh) c.in-Some.ensures.items c.requires)

pub start_splitter-requires : goal.start_splitter-requires
start_splitter-requires g t c = grind (arith, elements)
