use Rattle.std.proofs.Common.{sym, subst}
use Rattle.kmc_partqueue.specs.Counts.{Each}
use Rattle.kmc_stage_one.specs.Shards.{IsFreshShard}
use Rattle.kmc_stage_one.proofs.Fresh.{fresh_writers, fresh_readers, fresh_shards}
use Rattle.kmc_stage_one.proofs.passing.open_way.Goals as goal

pub returns-clause-open : goal.returns-clause-open
returns-clause-open c = let e = c.in_ok-lanes.ensures in let lanes = c.in_ok-lanes.lanes in
    rw c.new-way.ensures.0 (fresh_writers lanes.table.shared.table_id lanes.shape c.args.queue c.in_ok-lanes.writers.items e.writers e.shape)

pub returns-clause-fresh : goal.returns-clause-fresh
returns-clause-fresh c = let e = c.in_ok-lanes.ensures in let lanes = c.in_ok-lanes.lanes in
    let id = lanes.table.shared.table_id in let readers = c.in_ok-lanes.readers.items in
    rw c.new-way.ensures.0 (subst (Each (IsFreshShard id lanes.shape c.args.bins.shape)) (sym c.in_ok-shards.ensures)
    (fresh_shards id lanes.shape c.args.queue c.args.bins readers (fresh_readers id lanes.shape c.args.queue readers e.readers e.shape)))
