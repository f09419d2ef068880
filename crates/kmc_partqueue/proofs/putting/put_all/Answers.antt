use Rattle.std.proofs.Common.{arith, ℕ, ◌≡◌, ◌<◌, [], ◌∷◌, ◌++◌, length, length-append, append_assoc, ap, ◌∙◌, sym, subst}
use Rattle.std.proofs.lemmas.Result.{IfOk-from_err}
use Rattle.std.specs.Prelude.{Result, Ok, Err, IsErrAnd}
use Rattle.std.specs.Vec.Iter.{into_iter_items}
use Rattle.kmc_partqueue.specs.declared.refusal.GivenUp.{GivenUp}
use Rattle.kmc_partqueue.specs.Lemmas.SameSeats.{same_seat}
use Rattle.kmc_partqueue.proofs.putting.put_all.Goals as goal

-- what is passed on is the cause
same_cause : {A : Type 0} (r : Result A GivenUp) (e told : GivenUp) → IsErrAnd r (λ x. x ≡ e) → r ≡ Err told → e ≡ told
same_cause (Ok x) e told passed is = absurd passed
same_cause (Err x) e told passed is = cc

pub loop-part-preserved : goal.loop-part-preserved
loop-part-preserved g c =
    let inv = c.loop-part.invariant in
    let old = c.args.s.now.sent in
    let part = c.in-Some.part in
    let seen = c.loop-part.yielded in
    let rest = into_iter_items c.next.new.self in (
      same_seat c.args.s.now c.loop-part.s c.put_part.new.s inv.0 c.in_ok-put_part.ensures.seat,
      c.in_ok-put_part.ensures.put ∙ ap (λ l. l ++ part ∷ []) inv.1 ∙ append_assoc old seen (part ∷ []),
      inv.2 ∙ ap (λ l. seen ++ l) c.in-Some.ensures.steps.0 ∙ sym (append_assoc seen (part ∷ []) rest),
    )

pub put_part-requires : goal.put_part-requires
put_part-requires g c = let same = c.loop-part.invariant.0 in (
  same.table ∙ c.requires.0,
  same.per_writer ∙ c.requires.1,
  subst (λ (z : ℕ). z < c.args.way.now.lanes.shape.writers) (sym same.number) c.requires.2,
)

pub returns-in_err-put_part-clause-seat : goal.returns-in_err-put_part-clause-seat
returns-in_err-put_part-clause-seat g c = same_seat c.args.s.now c.loop-part.s c.put_part.new.s c.loop-part.invariant.0 c.in_err-put_part.ensures.seat

pub returns-in_err-put_part-clause-put : goal.returns-in_err-put_part-clause-put
returns-in_err-put_part-clause-put g c = IfOk-from_err _ _ c.from_residual.ensures.0

pub returns-in_err-put_part-clause-spent : goal.returns-in_err-put_part-clause-spent
returns-in_err-put_part-clause-spent g c = λ is.
    let inv = c.loop-part.invariant in
    let old = c.args.s.now.sent in
    let part = c.in-Some.part in
    let seen = c.loop-part.yielded in
    let rest = into_iter_items c.next.new.self in
    let many = c.in_err-put_part.ensures.spent.0 (ap Err (same_cause c.from_residual.result c.in_err-put_part.field-0.0 _ c.from_residual.ensures.1 is)) in
    omega (
      arith,
      many,
      ap length inv.1,
      length-append old seen,
      length-append old c.args.parts.items,
      ap length (inv.2 ∙ ap (λ l. seen ++ l) c.in-Some.ensures.steps.0),
      length-append seen (part ∷ rest),
    )

pub returns-clause-seat : goal.returns-clause-seat
returns-clause-seat g c = c.loop-part.invariant.0
