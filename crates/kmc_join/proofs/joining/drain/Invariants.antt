use Rattle.std.proofs.Common.{◌≡◌, ◌≤◌, ℕ, List, length, map, Option}
use Rattle.kmc_sum.specs.Heads.{IsTree}
use Rattle.kmc_sum.specs.Sources.{AreReady, no_lists}
use Rattle.kmc_join.specs.State.{IsSoFar}
use Rattle.kmc_join.specs.Taking.{AreAbreast}
use Rattle.kmc_join.proofs.joining.drain.Given as goal

-- the words so far are joined
abbrev pub invariant-loop-step : goal.invariant-loop-step
invariant-loop-step g l = record {
  many : length l.readers ≡ length l.initial.readers;
  same : map (λ r. r.failures) l.readers ≡ map (λ r. r.failures) l.initial.readers;
  ready : AreReady l.k (length l.readers) l.rooms l.heads;
  tree : IsTree l.heads;
  kept : l.writer.failures ≡ l.initial.writer.failures;
  few : l.lines ≤ l._step;
  so : (starts : List (Option (List ℕ)))
      → AreAbreast l.k starts (map (λ r. g.R.Read.remaining r.inner) l.initial.readers) l.initial.rooms l.initial.heads (no_lists starts)
      → IsSoFar l.k l.rule l.limits starts (map (λ r. g.R.Read.remaining r.inner) l.readers) l.rooms l.heads l._step l.lines
      (g.W.Write.contents l.initial.writer.inner) (g.W.Write.contents l.writer.inner) l.buffer;
}
