use Rattle.std.proofs.Common.{sym, ◌∙◌}
use Rattle.kmc_spectrum.proofs.Faults.{left_behind, only_misuse}
use Rattle.kmc_spectrum.proofs.program.spectrum_of.Goals as goal

pub returns-in-Err-clause-failed : goal.returns-in-Err-clause-failed
returns-in-Err-clause-failed g c = λ one. left_behind _ _ _ _ _ _ _ _ c.in-Err.fault c.in-Err.ensures

pub returns-in-Err-clause-misused : goal.returns-in-Err-clause-misused
returns-in-Err-clause-misused g c = λ two. only_misuse _ _ _ _ _ _ _ _ c.in-Err.fault (sym c.ended.ensures.status ∙ two) c.in-Err.ensures
