use Rattle.std.proofs.Common.{[], ◌∷◌, ◌++◌, inl, inr, refl, arith, length-append}
use Rattle.kmc_slices.proofs.Opened.{opened_first, opened_more}
use Rattle.kmc_slices.proofs.Statuses.{on_error}
use Rattle.kmc_slices.proofs.programs.gathering.gather_readers.Goals as goal

pub loop-i-init : goal.loop-i-init
loop-i-init g c =
    let h = c.in_ok-records.ensures.ok in
    ((h.0, h.1) ∷ [], refl, opened_first _ h.0 h.1 h.2, h.3)

pub loop-i-preserved : goal.loop-i-preserved
loop-i-preserved g c =
    let h = c.loop-i.invariant in
    let more = c.in_ok-add_records.ensures.ok h.0 h.3 in (
      h.0 ++ (more.0, more.1) ∷ [],
      omega (arith, h.1, length-append h.0 ((more.0, more.1) ∷ [])),
      opened_more _ h.0 more.0 more.1 c.loop-i.i h.1 h.2 more.2,
      more.3,
    )

pub returns-in_err-records-clause-fault : goal.returns-in_err-records-clause-fault
returns-in_err-records-clause-fault g c =
    on_error c.from_residual.result _ c.in_err-records.field-0.0 c.from_residual.ensures.1 (inl c.in_err-records.ensures.fault)

pub returns-in_err-add_records-clause-fault : goal.returns-in_err-add_records-clause-fault
returns-in_err-add_records-clause-fault g c =
    let h = c.loop-i.invariant in
    on_error c.from_residual-in_err-add_records.result _ c.in_err-add_records.field-0.0 c.from_residual-in_err-add_records.ensures.1 (inr (
      c.loop-i.i,
      omega (arith, c.loop-i-test.true, c.loop-i.auto.i),
      record { readings = h.0; many = h.1; opened = h.2; records = _; gathered = h.3; next = c.in_err-add_records.ensures.fault },
    ))
