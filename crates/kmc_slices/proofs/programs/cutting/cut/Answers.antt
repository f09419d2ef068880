use Rattle.std.proofs.Common.{◌≡◌, length, rules, arith, refl}
use Rattle.kmc_slices.specs.declared.programs.cut_fault.CutFault.TheVariants.{NotMade}
use Rattle.kmc_slices.proofs.Statuses.{not_made_status}
use Rattle.kmc_slices.proofs.Uncut.{fault_of_files, wrote}
use Rattle.kmc_slices.proofs.programs.cutting.cut.Goals as goal

pub returns-clause-done : goal.returns-clause-done
returns-clause-done g c = λ status.
    let many : length c.as_mut_slice.result.now ≡ c.args.request.now.slices = search rules in
    wrote _ _ _ _ _ _ _ _ (c.cut_to.ensures.done status) many

pub returns-clause-failed : goal.returns-clause-failed
returns-clause-failed g c = λ status.
    let many : length c.as_mut_slice.result.now ≡ c.args.request.now.slices = search rules in
    let why = c.cut_to.ensures.failed status in
    fault_of_files _ _ _ _ _ _ _ _ why.0 why.1 many

pub returns-in-Err-clause-failed : goal.returns-in-Err-clause-failed
returns-in-Err-clause-failed g c = λ _.
    let why = c.in-Err.ensures.fault in
    (NotMade why.0, (why.2, refl))

pub returns-in-Err-clause-statuses : goal.returns-in-Err-clause-statuses
returns-in-Err-clause-statuses g c =
    let why = c.in-Err.ensures.fault in
    let failed = not_made_status c.in-Err.fault why.0 why.1 in
    omega (arith, failed, c.ended.ensures.status)
