use Rattle.std.proofs.Common.{◌≡◌, ℕ, ◌≤◌, List, length, map, Option}
use Rattle.kmc_sum.specs.Heads.{IsTree}
use Rattle.kmc_sum.specs.Sources.{AreReady, AreSources, no_lists}
use Rattle.kmc_sum.specs.Lemmas.Counted.{HaveTaken}
use Rattle.std.specs.Ordering.{nat_cmp}
use Rattle.kmc_join.specs.Rows.{HasNoZero}
use Rattle.kmc_join.specs.Tally.{IsTallied, seen}
use Rattle.kmc_join.proofs.tallying.tallied.Given as goal

-- the lines so far are taken and tallied
abbrev pub invariant-loop-step : goal.invariant-loop-step
invariant-loop-step g l = record {
  many : length l.readers ≡ length l.initial.readers;
  same : map (λ r. r.failures) l.readers ≡ map (λ r. r.failures) l.initial.readers;
  ready : AreReady l.k (length l.readers) l.rooms l.heads;
  tree : IsTree l.heads;
  sound : HasNoZero nat_cmp l.tally;
  few : (n : ℕ) → seen l.small.items l.tally n ≤ l._step;
  so : (starts : List (Option (List ℕ)))
      → AreSources l.k starts (map (λ r. g.R.Read.remaining r.inner) l.initial.readers) l.initial.rooms l.initial.heads (no_lists starts)
      → IsTallied l.k starts (map (λ r. g.R.Read.remaining r.inner) l.readers) l.rooms l.heads (seen l.small.items l.tally);
  taken : (starts : List (Option (List ℕ)))
      → AreSources l.k starts (map (λ r. g.R.Read.remaining r.inner) l.initial.readers) l.initial.rooms l.initial.heads (no_lists starts)
      → HaveTaken l.k starts (map (λ r. g.R.Read.remaining r.inner) l.readers) l.rooms l.heads l._step;
}
