use Rattle.std.proofs.Common.{Err, ap, inl, inr, refl}
use Rattle.kmc_slices.proofs.Statuses.{on_error}
use Rattle.kmc_slices.proofs.Unlisted.{dump_fault}
use Rattle.kmc_slices.proofs.programs.listing.listed.Goals as goal

pub returns-in-Err-clause-fault : goal.returns-in-Err-clause-fault
returns-in-Err-clause-fault g c =
    let gathered = c.in_ok-records.ensures.ok in
    let why = c.in-Err.ensures in
    inr (
      c.in-Err.error,
      refl,
      record {
        readings = gathered.0;
        many = gathered.1;
        opened = gathered.2;
        records = _;
        gathered = gathered.3;
        why = dump_fault _ _ _ _ _ _ (λ fault is. why.foreign fault (ap Err is)) (λ is. why.judged (ap Err is)) (λ is. why.front (ap Err is))
            (λ is. why.failed (ap Err is)) why.silent;
      },
    )

pub returns-in_err-records-clause-fault : goal.returns-in_err-records-clause-fault
returns-in_err-records-clause-fault g c =
    on_error c.from_residual.result _ c.in_err-records.field-0.0 c.from_residual.ensures.1 (inl (c.in_err-records.ensures.fault, refl))
