use Rattle.std.proofs.Common.{rules, ◌≡◌, ℕ, List, map, sym, subst, ap, ◌∙◌}
use Rattle.std.specs.Prelude.{Result, Ok, IfOk, IfErr}
use Rattle.std.specs.List.{AllZip}
use Rattle.atomic_table.specs.Seated.{TableId}
use Rattle.kmc_record.specs.Shapes.{Sizes}
use Rattle.kmc_record.specs.Parts.{Parcel}
use Rattle.kmc_partcore.specs.declared.shape.QueueShape.{QueueShape}
use Rattle.kmc_partqueue.specs.Dealing.{row_from}
use Rattle.kmc_partqueue.specs.Seats.{WriterState, new_writer, new_reader}
use Rattle.kmc_store.specs.Bins.{BinList}
use Rattle.kmc_stage_one.specs.Shards.{IsShard, begun}
use Rattle.kmc_stage_one.specs.declared.shard.Shard.{Shard}
use Rattle.kmc_base.specs.Lemmas.PassedOn.{no_answer, of_err, passed_on}
use Rattle.kmc_stage_one.specs.Splitters.{IsDone}
use Rattle.kmc_stage_one.specs.Causes.{IsCause, IsWorkersCause}
use Rattle.kmc_partqueue.specs.Causes.{told}
use Rattle.kmc_partqueue.specs.declared.refusal.GivenUp.{GivenUp}
use Rattle.kmc_partqueue.specs.declared.refusal.GivenUp.TheVariants.{Memory, NumbersSpent, Stopped}
use Rattle.kmc_stage_one.proofs.passing.pass_parts.Goals as goal

-- what is known of a result holds of its answer
given : {A E : Type 0} (P : A → Type 0) (r : Result A E) (x : A) → r ≡ Ok x → IfOk r P → P x
given P r x is h = subst (λ y. IfOk y P) is h

-- what is told of the workers has their cause
told_of : (shape : Sizes) (batch : ℕ) (reads : List (List ℕ)) (sp : ℕ) (e : GivenUp) → IsWorkersCause shape batch reads sp e
    → IsCause shape batch reads sp (told e)
told_of shape batch reads sp Memory h = tt
told_of shape batch reads sp NumbersSpent h = h
told_of shape batch reads sp Stopped h = tt

told_cause : (shape : Sizes) (batch : ℕ) (reads : List (List ℕ)) (sp writers : ℕ) (e : GivenUp) → sp ≡ writers
    → IsWorkersCause shape batch reads sp e → IsCause shape batch reads writers (told e)
told_cause shape batch reads sp writers e many h = subst (λ n. IsCause shape batch reads n (told e)) many (told_of shape batch reads sp e h)

-- the seats that went out are those of the queue that is handed back
done_back : (shape : Sizes) (batch : ℕ) (reads : List (List ℕ)) (sp : ℕ) (queue : QueueShape) (id after : TableId) (out back : List (WriterState Parcel))
    → sp ≡ queue.writers → after ≡ id → out ≡ row_from (new_writer id queue) 0 queue.writers → AllZip (IsDone shape batch reads sp) out back
    → AllZip (IsDone shape batch reads queue.writers) (row_from (new_writer after queue) 0 queue.writers) back
done_back shape batch reads sp queue id after out back many same is h =
    subst (λ (i : TableId). AllZip (IsDone shape batch reads queue.writers) (row_from (new_writer i queue) 0 queue.writers) back) (sym same)
    (subst (λ (l : List (WriterState Parcel)). AllZip (IsDone shape batch reads queue.writers) l back) is
    (subst (λ (n : ℕ). AllZip (IsDone shape batch reads n) out back) many h))

shards_back : (bins : BinList) (queue : QueueShape) (id after : TableId) (out back : List Shard) → after ≡ id
    → out ≡ begun bins (row_from (new_reader id queue) 0 queue.readers) → AllZip IsShard out back
    → AllZip IsShard (begun bins (row_from (new_reader after queue) 0 queue.readers)) back
shards_back bins queue id after out back same is h =
    subst (λ (i : TableId). AllZip IsShard (begun bins (row_from (new_reader i queue) 0 queue.readers)) back) (sym same)
    (subst (λ (l : List Shard). AllZip IsShard l back) is h)

pub returns-in_err-way-clause-queue : goal.returns-in_err-way-clause-queue
returns-in_err-way-clause-queue g c = no_answer _ _ c.from_residual.result c.from_residual.ensures.1

pub returns-in_err-way-clause-done : goal.returns-in_err-way-clause-done
returns-in_err-way-clause-done g c = no_answer _ _ c.from_residual.result c.from_residual.ensures.1

pub returns-in_err-way-clause-shards : goal.returns-in_err-way-clause-shards
returns-in_err-way-clause-shards g c = no_answer _ _ c.from_residual.result c.from_residual.ensures.1

pub returns-in_err-way-clause-cause : goal.returns-in_err-way-clause-cause
returns-in_err-way-clause-cause g c =
    let a = c.args in
    passed_on (IsCause a.plan.shape a.plan.batch (map (λ r. r.now) a.reads.now) a.queue.writers) c.from_residual.result
    _ c.from_residual.ensures.1 tt

pub returns-in-Ok-clause-queue : goal.returns-in-Ok-clause-queue
returns-in-Ok-clause-queue g c = ap (λ l. l.shape) c.into_lanes.ensures ∙ c.in_ok-way.ensures.shape

pub returns-in-Ok-clause-done : goal.returns-in-Ok-clause-done
returns-in-Ok-clause-done g c =
    let a = c.args in let way = c.in_ok-way.way in let seats = c.in_ok-way.seats in let reads = map (λ r. r.now) a.reads.now in
    let gave : IfOk c.scoped-back.result (λ q. AllZip (IsDone a.plan.shape a.plan.batch (map (λ r. r.now) a.reads.now) way.writers)
    seats.writers.items q.0.items) = search (rules, c.scoped-back.ensures) in
    done_back a.plan.shape a.plan.batch reads way.writers a.queue way.lanes.table.shared.table_id c.into_lanes.result.table.shared.table_id
    seats.writers.items c.in-Ok.done.items (way.as_many ∙ ap (λ q. q.writers) c.in_ok-way.ensures.shape)
    (ap (λ l. l.table.shared.table_id) c.into_lanes.ensures) c.in_ok-way.ensures.writers (given _ c.scoped-back.result _ c.in-Ok.is gave)

pub returns-in-Ok-clause-shards : goal.returns-in-Ok-clause-shards
returns-in-Ok-clause-shards g c =
    let a = c.args in let way = c.in_ok-way.way in let seats = c.in_ok-way.seats in
    let gave : IfOk c.scoped-back.result (λ q. AllZip IsShard seats.shards.items q.1.items) = search (rules, c.scoped-back.ensures) in
    shards_back a.bins a.queue way.lanes.table.shared.table_id c.into_lanes.result.table.shared.table_id seats.shards.items c.in-Ok.shards.items
    (ap (λ l. l.table.shared.table_id) c.into_lanes.ensures) c.in_ok-way.ensures.shards (given _ c.scoped-back.result _ c.in-Ok.is gave)

pub returns-in-Err-clause-cause : goal.returns-in-Err-clause-cause
returns-in-Err-clause-cause g c =
    let a = c.args in let way = c.in_ok-way.way in let reads = map (λ r. r.now) a.reads.now in
    let gave : IfErr c.scoped-back.result (IsWorkersCause a.plan.shape a.plan.batch (map (λ r. r.now) a.reads.now) way.writers)
    = search (rules, c.scoped-back.ensures) in
    subst (IsCause a.plan.shape a.plan.batch reads a.queue.writers) (sym c.told.ensures)
    (told_cause a.plan.shape a.plan.batch reads way.writers a.queue.writers c.in-Err.cause
    (way.as_many ∙ ap (λ q. q.writers) c.in_ok-way.ensures.shape) (of_err _ c.scoped-back.result _ c.in-Err.is gave))
