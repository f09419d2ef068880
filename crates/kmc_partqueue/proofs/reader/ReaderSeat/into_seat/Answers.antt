use Rattle.std.proofs.Common.{sym, ap, ◌∙◌, subst}
use Rattle.kmc_partqueue.specs.Seats.{got_of, Noted}
use Rattle.kmc_partqueue.proofs.reader.ReaderSeat.into_seat.Goals as goal

pub returns-clause-view : goal.returns-clause-view
returns-clause-view g c = let inv = c.self.invariant in let vi = c.self.view_is in (
  inv.view,
  inv.is,
  record {
    number = inv.number_is ∙ ap (λ v. v.number) vi;
    got = sym (ap (λ m. got_of m.0) inv.is) ∙ ap (λ v. v.got) vi;
    noted = subst (λ z. Noted inv.view.ends z) (ap (λ v. v.totals) vi) inv.noted;
  },
)
