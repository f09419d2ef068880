use Rattle.std.proofs.Common.{ℕ, ap, sym, ◌∙◌, slice_get, Some, None, arith}
use Rattle.kmc_partqueue.specs.Lemmas.Sums.{get_at}
use Rattle.kmc_partqueue.proofs.ReaderCalls.{not_true, not_false}
use Rattle.kmc_partqueue.proofs.reader.ReaderSeat.is_open.Goals as goal

pub offset_bounds-self-inside-lane : goal.offset_bounds-self-inside-lane
offset_bounds-self-inside-lane g c = omega arith

pub bounds : goal.bounds
bounds g c = c.requires.1

pub returns-in-None-clause-open : goal.returns-in-None-clause-open
returns-in-None-clause-open g c = λ e.
    let long = c.self.invariant.long in let lane : ℕ = c.args.lane in
    sym (ap (λ v. slice_get v.totals lane) c.self.view_is)
    ∙ get_at c.self.inside.totals lane None (omega arith) ∙ ap Some c.in-None.is

pub returns-in-None-clause-ended : goal.returns-in-None-clause-ended
returns-in-None-clause-ended g c = λ e. not_false e

pub returns-in-Some-clause-open : goal.returns-in-Some-clause-open
returns-in-Some-clause-open g c = λ e. not_true e

pub returns-in-Some-clause-ended : goal.returns-in-Some-clause-ended
returns-in-Some-clause-ended g c = λ e.
    let long = c.self.invariant.long in let lane : ℕ = c.args.lane in (
      c.in-Some.field-0,
      sym (ap (λ v. slice_get v.totals lane) c.self.view_is)
          ∙ get_at c.self.inside.totals lane None (omega arith) ∙ ap Some c.in-Some.is,
    )
