use Rattle.std.proofs.Common.{◌≡◌, length}
use Rattle.kmc_sum.specs.Source.{IsRoom, unread}
use Rattle.kmc_join.specs.Asking.{GaveWords}
use Rattle.kmc_join.proofs.asking.asked_words.Given as goal

-- the words so far are taken
abbrev pub invariant-loop-step : goal.invariant-loop-step
invariant-loop-step g l = record {
  room : IsRoom l.room;
  kept : l.reader.failures ≡ l.initial.reader.failures;
  many : length l.words.items ≡ l.step;
  gave : GaveWords (g.Q.Read.remaining l.initial.reader.inner) (g.Q.Read.remaining l.reader.inner) l.words.items (unread l.room);
}
