use Rattle.std.proofs.Common.{◌≡◌, ℕ, ◌*◌, ◌<◌, ◌≤◌, ◌^◌, List, length, map, Option}
use Rattle.kmc_base.specs.Packed.{unpack}
use Rattle.kmc_sum.specs.Sum.{sum_of}
use Rattle.kmc_sum.specs.Heads.{rank, head_at, IsTree}
use Rattle.kmc_sum.specs.Sources.{AreReady, AreSources}
use Rattle.kmc_sum.specs.State.{IsSoFar}
use Rattle.kmc_sum.specs.Lemmas.Counted.{HaveTaken}
use Rattle.kmc_sum.proofs.merging.drain.Given as goal

-- the lines so far are taken, and none that is left is below the open word
abbrev pub invariant-loop-step : goal.invariant-loop-step
invariant-loop-step g l = record {
  many : length l.readers ≡ length l.initial.readers;
  same : map (λ r. r.failures) l.readers ≡ map (λ r. r.failures) l.initial.readers;
  ready : AreReady l.k (length l.readers) l.rooms l.heads;
  tree : IsTree l.heads;
  fits : l.packed < 4 ^ l.k;
  kept : l.writer.failures ≡ l.initial.writer.failures;
  lines : l.lines ≤ l._step;
  behind : (j : ℕ) → length l.readers ≤ j → j < 2 * length l.readers → l.packed ≤ rank (head_at l.heads j);
  so : (starts : List (Option (List ℕ))) (lists : List (List (List ℕ × ℕ))) → AreSources l.k starts
      (map (λ r. g.R.Read.remaining r.inner) l.initial.readers) l.initial.rooms l.initial.heads lists
      → ((x : List ℕ) → sum_of lists x ≡ 0)
      → IsSoFar l.k l.limits starts (map (λ r. g.R.Read.remaining r.inner) l.readers) l.rooms l.heads (unpack l.k l.packed) l.count l.lines
      (g.W.Write.contents l.initial.writer.inner) (g.W.Write.contents l.writer.inner) l.buffer;
  taken : (starts : List (Option (List ℕ))) (lists : List (List (List ℕ × ℕ))) → AreSources l.k starts
      (map (λ r. g.R.Read.remaining r.inner) l.initial.readers) l.initial.rooms l.initial.heads lists
      → HaveTaken l.k starts (map (λ r. g.R.Read.remaining r.inner) l.readers) l.rooms l.heads l._step;
}
