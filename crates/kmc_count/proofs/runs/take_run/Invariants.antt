use Rattle.std.proofs.Common.{◌-◌, ◌≤◌, ℕ, length, map}
use Rattle.kmc_count.proofs.Walk.{IsRunSoFar}
use Rattle.kmc_count.proofs.runs.take_run.Given as goal

abbrev pub invariant-loop-taken : goal.invariant-loop-taken
invariant-loop-taken g l = record {
  inside : l.taken ≤ length l.items;
  run : (k : ℕ) → IsRunSoFar k l.bits (map g.W.PackedKmer.number l.items) (g.W.PackedKmer.number l.word) l.count l.taken;
}

abbrev pub decreases-loop-taken : goal.decreases-loop-taken
decreases-loop-taken g l = length l.items - l.taken
