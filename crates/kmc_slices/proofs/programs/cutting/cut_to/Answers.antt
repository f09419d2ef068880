use Rattle.std.proofs.Common.{arith}
use Rattle.kmc_slices.proofs.Statuses.{cut_status}
use Rattle.kmc_slices.proofs.programs.cutting.cut_to.Goals as goal

pub returns-in-Err-clause-failed : goal.returns-in-Err-clause-failed
returns-in-Err-clause-failed g c = λ _. (c.in-Err.fault, c.in-Err.ensures.fault)

pub returns-in-Err-clause-statuses : goal.returns-in-Err-clause-statuses
returns-in-Err-clause-statuses g c =
    let why = c.in-Err.ensures.fault in
    omega (arith, c.ended.ensures.status, cut_status c.in-Err.fault why.0 why.1)
