use Rattle.std.proofs.Common.{ap, refl, true}
use Rattle.kmc_partqueue.specs.Seats.{per_writer_of, sent_of, open_writer}
use Rattle.kmc_partqueue.proofs.done.DoneSeat.into_seat.Goals as goal

pub returns-clause-view : goal.returns-clause-view
returns-clause-view g c = let vi = c.self.view_is in (
  open_writer c.self.inside.number (per_writer_of c.self.inside.seat.me.0) (sent_of c.self.inside.seat.me.0) true,
  c.self.invariant,
  record { number = ap (λ v. v.number) vi; sent = ap (λ v. v.sent) vi; done = refl },
)
