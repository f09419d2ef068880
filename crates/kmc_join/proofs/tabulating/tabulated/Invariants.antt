use Rattle.std.proofs.Common.{◌≡◌, ◌≤◌, ℕ, List, length, map, Option}
use Rattle.kmc_sum.specs.Heads.{IsTree}
use Rattle.kmc_sum.specs.Sources.{AreReady, no_lists}
use Rattle.kmc_join.specs.Rows.{HasNoZero, number_of}
use Rattle.kmc_join.specs.Table.{counts_cmp}
use Rattle.kmc_join.specs.Tabulation.{IsTabulated}
use Rattle.kmc_join.specs.Taking.{AreAbreast}
use Rattle.kmc_join.proofs.tabulating.tabulated.Given as goal

-- the words so far are tallied
abbrev pub invariant-loop-step : goal.invariant-loop-step
invariant-loop-step g l = record {
  many : length l.readers ≡ length l.initial.readers;
  same : map (λ r. r.failures) l.readers ≡ map (λ r. r.failures) l.initial.readers;
  ready : AreReady l.k (length l.readers) l.rooms l.heads;
  tree : IsTree l.heads;
  sound : HasNoZero counts_cmp l.tally;
  few : (c : ℕ × ℕ) → number_of counts_cmp l.tally c ≤ l._step;
  so : (starts : List (Option (List ℕ)))
      → AreAbreast l.k starts (map (λ r. g.R.Read.remaining r.inner) l.initial.readers) l.initial.rooms l.initial.heads (no_lists starts)
      → IsTabulated l.k l.cap starts (map (λ r. g.R.Read.remaining r.inner) l.readers) l.rooms l.heads l._step l.tally;
}
