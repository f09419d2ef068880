use Rattle.std.proofs.Common.{◌≡◌, ℕ, ◌<◌, ◌≤◌, ◌^◌, true, [], length, List, Option}
use Rattle.kmc_base.specs.Packed.{unpack}
use Rattle.kmc_sum.specs.Source.{IsRoom}
use Rattle.kmc_sum.specs.Sources.{IsSource}
use Rattle.kmc_join.specs.KeyCounts.{AreBelow}
use Rattle.kmc_join.proofs.NotedKeys.{IsNoted}
use Rattle.kmc_join.proofs.looking_up.walk.Given as goal

-- the lines so far are taken and noted, and the keys before the place are below the next word
abbrev pub invariant-loop-step : goal.invariant-loop-step
invariant-loop-step g l = record {
  room : IsRoom l.room;
  kept : l.dump.failures ≡ l.initial.dump.failures;
  fits : l.head.packed < 4 ^ l.k;
  within : l.below ≤ length l.keys;
  below : l.head.live ≡ true → AreBelow l.keys l.below (unpack l.k l.head.packed);
  so : (start : Option (List ℕ)) → IsSource l.k start (g.D.Read.remaining l.initial.dump.inner) l.initial.room l.initial.head []
      → IsNoted l.k start (g.D.Read.remaining l.dump.inner) l.room l.head l.keys l.counts l._step;
}
