use Rattle.std.proofs.Common.{ℕ, refl, length, slice_get, arith, sym, ap, ◌∙◌, subst}
use mathlib.Core.Logic.{dite}
use native.Mathlib.Decide.{ℕ_discrete}
use Rattle.std.proofs.lemmas.Bool.{both_ways}
use Rattle.std.proofs.lemmas.Option.{slice_get_read}
use Rattle.kmc_partqueue.specs.Seats.{AllEnded}
use Rattle.kmc_partqueue.proofs.Counted.{at_within}
use Rattle.kmc_partqueue.proofs.Final.{get_or_at}
use Rattle.kmc_partqueue.proofs.gather.first_finished.Goals as goal

pub loop-i-preserved : goal.loop-i-preserved
loop-i-preserved g c = λ j lt s e all. let i : ℕ = c.loop-i.i in let r = c.index-readers-i.result in dite (ℕ_discrete j i)
    (λ is. let one = c.index-readers-i.is ∙ get_or_at c.args.readers.now i r s (ap (slice_get c.args.readers.now) (sym is) ∙ e) in
    absurd (both_ways _ c.if-finished.false (c.finished.ensures.1 (subst (λ v. AllEnded v.writers v.totals) (sym one) all))))
    (λ ne. c.loop-i.invariant j (omega arith) s e all)

pub unreachable-requires : goal.unreachable-requires
unreachable-requires g c =
    let r = c.requires in let lt = at_within c.args.readers.now r.1.0 r.0 r.1.1 in let end = c.loop-i-test.false in
    c.loop-i.invariant r.1.0 (omega arith) r.0 r.1.1 r.2

pub returns-then-finished : goal.returns-then-finished
returns-then-finished g c = let seat = c.index-readers-i in (
  seat.result,
  slice_get_read c.args.readers.now (length c.args.readers.now) c.loop-i.i seat.result refl (omega arith) seat.is,
  c.finished.ensures.0 c.if-finished.true,
)
