use Rattle.std.proofs.Common.{◌≡◌}
use Rattle.kmc_store.specs.Bodies.{AreAdded}
use Rattle.kmc_partqueue.specs.SameSeats.{items_of, IsSameReader}
use Rattle.kmc_stage_one.proofs.storer.store.Given as goal

abbrev pub invariant-loop : goal.invariant-loop
invariant-loop g l = IsSameReader l.fn.shard.seat l.seat × (l.bins.shape ≡ l.fn.shard.bins.shape)
    × AreAdded l.fn.shard.bins.shape l.fn.shard.bins.bodies l.bins.bodies (items_of l.seat.got)
