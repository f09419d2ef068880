use Rattle.std.proofs.Common.{◌≡◌, ◌++◌}
use Rattle.std.specs.Vec.Iter.{into_iter_items}
use Rattle.kmc_stage_one.specs.Shards.{begun}
use Rattle.kmc_stage_one.proofs.Merges.{before_next}
use Rattle.kmc_stage_one.proofs.beginning.with_bins.Given as goal

abbrev pub invariant-loop-seat : goal.invariant-loop-seat
invariant-loop-seat l = record {
  seen : l.fn.readers.items ≡ l.yielded ++ into_iter_items l.seat-iterator;
  made : l.shards.items ≡ begun l.fn.bins l.yielded;
  next : l.next ≡ before_next l.yielded l.fn.bins;
}
