use Rattle.std.proofs.Common.{inr}
use Rattle.kmc_slices.proofs.programs.cutting.cut_program.Goals as goal

pub returns-in-Ok-Some-clause-done : goal.returns-in-Ok-Some-clause-done
returns-in-Ok-Some-clause-done g c = λ status. (_, c.cut_words.ensures.done status, c.cut_words.ensures.shown status)

pub returns-in-Ok-Some-clause-failed : goal.returns-in-Ok-Some-clause-failed
returns-in-Ok-Some-clause-failed g c = λ status.
    let e = c.cut_words.ensures in
    inr (_, (λ other. (e.failed status other, e.unasked other)), (λ asked. (e.unshown status asked, e.unread asked)))
