use Rattle.std.proofs.Common.{◌∙◌, ◌++◌, ◌∷◌, [], ap, sym, subst}
use Rattle.kmc_partqueue.specs.Seats.{AllEnded}
use Rattle.kmc_partqueue.proofs.waiting.taking.take.Goals as goal

pub returns-in-Got-clause-again : goal.returns-in-Got-clause-again
returns-in-Got-clause-again g c =
    λ all. absurd (c.in-Got.ensures.again (subst (λ v. AllEnded v.writers v.totals) (sym (c.loop.invariant.6 all)) all)).1

pub returns-in-Finished-clause-again : goal.returns-in-Finished-clause-again
returns-in-Finished-clause-again g c = λ all. let same = c.loop.invariant.6 all in
    ((c.in-Finished.ensures.again (subst (λ v. AllEnded v.writers v.totals) (sym same) all)).0 ∙ same, tt)

pub loop-preserved : goal.loop-preserved
loop-preserved g c = let inv = c.loop.invariant in let e = c.in-NotNow.ensures in (
  e.seat.0 ∙ inv.0,
  e.seat.1 ∙ inv.1,
  e.seat.2 ∙ inv.2,
  e.seat.3 ∙ inv.3,
  e.answer.0 ∙ inv.4,
  λ w t p. e.notes w t (inv.5 w t p),
  λ all. absurd (e.again (subst (λ v. AllEnded v.writers v.totals) (sym (inv.6 all)) all)).1,
)

pub try_take-requires : goal.try_take-requires
try_take-requires g c = let inv = c.loop.invariant in (inv.0 ∙ c.requires.0, inv.2 ∙ c.requires.1, inv.3 ∙ c.requires.2)

pub returns-in-Got-clause-seat : goal.returns-in-Got-clause-seat
returns-in-Got-clause-seat g c =
    let inv = c.loop.invariant in let e = c.in-Got.ensures in (e.seat.0 ∙ inv.0, e.seat.1 ∙ inv.1, e.seat.2 ∙ inv.2, e.seat.3 ∙ inv.3)

pub returns-in-Got-clause-answer : goal.returns-in-Got-clause-answer
returns-in-Got-clause-answer g c =
    let e = c.in-Got.ensures in (e.answer.0 ∙ ap (λ z. z ++ c.in-Got.part ∷ []) c.loop.invariant.4, e.answer.1)

pub returns-in-Got-clause-notes : goal.returns-in-Got-clause-notes
returns-in-Got-clause-notes g c = λ w t p. c.in-Got.ensures.notes w t (c.loop.invariant.5 w t p)

pub returns-in-Finished-clause-seat : goal.returns-in-Finished-clause-seat
returns-in-Finished-clause-seat g c = let inv = c.loop.invariant in let e = c.in-Finished.ensures in
    (e.seat.0 ∙ inv.0, e.seat.1 ∙ inv.1, e.seat.2 ∙ inv.2, e.seat.3 ∙ inv.3)

pub returns-in-Finished-clause-answer : goal.returns-in-Finished-clause-answer
returns-in-Finished-clause-answer g c = let e = c.in-Finished.ensures in (e.answer.0 ∙ c.loop.invariant.4, e.answer.1, e.answer.2)

pub returns-in-Finished-clause-notes : goal.returns-in-Finished-clause-notes
returns-in-Finished-clause-notes g c = λ w t p. c.in-Finished.ensures.notes w t (c.loop.invariant.5 w t p)
