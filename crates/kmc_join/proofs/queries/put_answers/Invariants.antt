use Rattle.std.proofs.Common.{◌≡◌, ℕ, List, map, take}
use Rattle.kmc_base.specs.Strands.{key}
use Rattle.kmc_device.specs.Device.{WritesOut}
use Rattle.kmc_lists.specs.Line.{text_of}
use Rattle.kmc_join.specs.KeyCounts.{AreCounts}
use Rattle.kmc_join.proofs.queries.put_answers.Given as goal

-- the lines so far went out or are gathered
abbrev pub invariant-loop-word : goal.invariant-loop-word
invariant-loop-word g l = record {
  kept : l.writer.failures ≡ l.initial.writer.failures;
  so : (count : List ℕ → ℕ) → AreCounts count l.keys l.counts
      → WritesOut (g.W.Write.contents l.initial.writer.inner) (g.W.Write.contents l.writer.inner)
      (text_of (map (λ w. (w, count (key l.fn.strands w))) (take l.word-index l.words))) l.buffer;
}
