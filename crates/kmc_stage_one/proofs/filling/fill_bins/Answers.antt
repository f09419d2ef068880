use Rattle.std.proofs.Common.{◌≡◌, ◌<◌, ℕ, Bor, List, map, sym, subst, arith}
use Rattle.kmc_partcore.specs.declared.shape.QueueShape.{QueueShape}
use Rattle.kmc_record.specs.Shapes.{Sizes}
use Rattle.kmc_partqueue.specs.Counts.{Each}
use Rattle.kmc_partqueue.specs.Told.{IsHistoryOf}
use Rattle.kmc_stage_one.specs.declared.shard.Shard.{Shard}
use Rattle.kmc_stage_one.proofs.Returned.{writers_of, writers_once, readers_of, readers_once, one_ended}
use Rattle.kmc_partqueue.specs.Dealing.{row_from}
use Rattle.kmc_partqueue.specs.Seats.{new_reader}
use Rattle.kmc_stage_one.proofs.Stored.{held, each_dealt, shards_grown, grown_shaped, some_shards}
use Rattle.kmc_stage_one.proofs.filling.fill_bins.Goals as goal

pub merge_shards-requires : goal.merge_shards-requires
merge_shards-requires g c =
    let queue = c.args.queue in let bins = c.args.bins in let shards = c.in_ok-lanes.shards.items in
    let grown = shards_grown bins (row_from (new_reader c.in_ok-lanes.lanes.table.shared.table_id queue) 0 queue.readers) shards c.in_ok-lanes.ensures.shards in
    subst (λ (s : Sizes). Each (λ (h : Shard). h.bins.shape ≡ s) shards) c.requires (grown_shaped bins shards grown)

pub gather-totals-requires-clause-queue : goal.gather-totals-requires-clause-queue
gather-totals-requires-clause-queue g c =
    let shape = c.args.plan.shape in let queue = c.args.queue in let id = c.in_ok-lanes.lanes.table.shared.table_id in
    let reads = map (λ (r : Bor (List ℕ)). r.now) c.args.reads.now in
    rw c.in_ok-lanes.ensures.queue (
      writers_of id queue shape c.args.plan.batch reads queue.writers c.in_ok-lanes.done.items c.in_ok-lanes.ensures.done,
      readers_of id queue c.args.bins c.in_ok-lanes.shards.items c.in_ok-bins.seats.items c.in_ok-bins.ensures.seats c.in_ok-lanes.ensures.shards,
    )

pub gather-totals-requires-clause-writers : goal.gather-totals-requires-clause-writers
gather-totals-requires-clause-writers g c =
    let queue = c.args.queue in let reads = map (λ (r : Bor (List ℕ)). r.now) c.args.reads.now in
    rw c.in_ok-lanes.ensures.queue
    (writers_once c.in_ok-lanes.lanes.table.shared.table_id queue c.args.plan.shape c.args.plan.batch reads queue.writers c.in_ok-lanes.done.items c.in_ok-lanes.ensures.done)

pub gather-totals-requires-clause-readers : goal.gather-totals-requires-clause-readers
gather-totals-requires-clause-readers g c =
    rw c.in_ok-lanes.ensures.queue
    (readers_once c.in_ok-lanes.lanes.table.shared.table_id c.args.queue c.args.bins c.in_ok-lanes.shards.items c.in_ok-bins.seats.items c.in_ok-bins.ensures.seats c.in_ok-lanes.ensures.shards)

pub gather-totals-requires-clause-finished : goal.gather-totals-requires-clause-finished
gather-totals-requires-clause-finished g c =
    let within = c.args.queue.within in let some : 0 < c.args.queue.readers = omega arith in
    one_ended c.in_ok-lanes.lanes.table.shared.table_id c.args.queue c.args.bins c.in_ok-lanes.shards.items c.in_ok-bins.seats.items c.in_ok-bins.ensures.seats c.in_ok-lanes.ensures.shards some

pub returns-clause-holds : goal.returns-clause-holds
returns-clause-holds g c = λ others were.
    let plan = c.args.plan in let queue = c.args.queue in let id = c.in_ok-lanes.lanes.table.shared.table_id in let bins = c.args.bins in
    let reads = map (λ (r : Bor (List ℕ)). r.now) c.args.reads.now in let shards = c.in_ok-lanes.shards.items in
    let within = queue.within in let some_w : 0 < queue.writers = omega arith in let some_r : 0 < queue.readers = omega arith in
    let grown = shards_grown bins (row_from (new_reader id queue) 0 queue.readers) shards c.in_ok-lanes.ensures.shards in
    let added = c.in_ok-bins.ensures.bodies bins (some_shards id queue bins queue.readers shards some_r c.in_ok-lanes.ensures.shards) c.requires grown in
    held plan.shape plan.batch reads id queue c.in_ok-lanes.done.items c.in_ok-lanes.ensures.done c.gathered.ensures c.gathered_parts_hold_reads.ensures
    c.in_ok-bins.seats.items others bins.bodies c.in_ok-bins.bins.bodies plan.some.1 some_w plan.some.0 c.gather-totals.ensures.gathered were added

pub returns-clause-passage : goal.returns-clause-passage
returns-clause-passage g c =
    let plan = c.args.plan in let queue = c.args.queue in let id = c.in_ok-lanes.lanes.table.shared.table_id in let bins = c.args.bins in
    let reads = map (λ (r : Bor (List ℕ)). r.now) c.args.reads.now in let done = c.in_ok-lanes.done.items in let shards = c.in_ok-lanes.shards.items in
    let within = queue.within in let some_r : 0 < queue.readers = omega arith in
    let grown = shards_grown bins (row_from (new_reader id queue) 0 queue.readers) shards c.in_ok-lanes.ensures.shards in
    let history = c.gather-totals.ensures.history in
    record {
      writers = done;
      readers = c.in_ok-bins.seats.items;
      history = history.0;
      told = subst (λ (q : QueueShape). IsHistoryOf q done c.in_ok-bins.seats.items history.0) c.in_ok-lanes.ensures.queue history.1;
      dealt = each_dealt plan.shape plan.batch reads id queue done c.in_ok-lanes.ensures.done;
      every_writer = writers_once id queue plan.shape plan.batch reads queue.writers done c.in_ok-lanes.ensures.done;
      every_reader = readers_once id queue bins shards c.in_ok-bins.seats.items c.in_ok-bins.ensures.seats c.in_ok-lanes.ensures.shards;
      gathered = c.gather-totals.ensures.gathered;
      counted = rw (sym c.in_ok-lanes.ensures.queue) c.gather-totals.ensures.totals;
      stored = c.in_ok-bins.ensures.bodies bins (some_shards id queue bins queue.readers shards some_r c.in_ok-lanes.ensures.shards) c.requires grown;
    }
