use Rattle.std.proofs.Common.{◌≡◌, ◌++◌, map}
use Rattle.std.specs.Vec.Iter.{into_iter_items}
use Rattle.kmc_partqueue.specs.Counts.{Each}
use Rattle.kmc_store.specs.Bins.{BinList}
use Rattle.kmc_store.specs.Bodies.{AreAdded}
use Rattle.kmc_stage_one.specs.Shards.{AreGrown, all_got}
use Rattle.kmc_stage_one.proofs.Merges.{before_all}
use Rattle.kmc_stage_one.proofs.merging.merge_shards.Given as goal

-- the shards so far are merged
abbrev pub invariant-loop-shard : goal.invariant-loop-shard
invariant-loop-shard l = record {
  seen : l.fn.shards.items ≡ l.yielded ++ into_iter_items l.shard-iterator;
  left : Each (λ h. h.bins.shape ≡ l.fn.shape) (into_iter_items l.shard-iterator);
  shaped : l.bins.shape ≡ l.fn.shape;
  seats : l.seats.items ≡ map (λ h. h.seat) l.yielded;
  added : (before : BinList) → before.shape ≡ l.fn.shape → AreGrown before l.fn.shards.items → AreAdded before.shape
      (before_all l.yielded before).bodies l.bins.bodies (all_got (map (λ h. h.seat) l.yielded));
}
