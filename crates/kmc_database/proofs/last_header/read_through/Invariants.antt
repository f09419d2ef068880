use Rattle.std.proofs.Common.{◌≡◌}
use Rattle.kmc_sum.specs.Source.{IsRoom, unread}
use Rattle.kmc_database.proofs.Through.{IsThrough}
use Rattle.kmc_database.proofs.last_header.read_through.Given as goal

-- what is gone and what the room holds was read, and more is gone at each step
abbrev pub invariant-loop-step : goal.invariant-loop-step
invariant-loop-step g l = record {
  room : IsRoom l.room;
  kept : l.reader.failures ≡ l.initial.reader.failures;
  through : IsThrough (g.R.Read.remaining l.initial.reader.inner) (g.R.Read.remaining l.reader.inner) (unread l.room) l.gone l._step;
}
