use Rattle.std.proofs.Common.{inr}
use Rattle.kmc_sum.proofs.arguments.program.Goals as goal

pub returns-in-Ok-Some-clause-done : goal.returns-in-Ok-Some-clause-done
returns-in-Ok-Some-clause-done g c = λ status. (_, c.sum_words.ensures.done status, c.sum_words.ensures.shown status)

pub returns-in-Ok-Some-clause-failed : goal.returns-in-Ok-Some-clause-failed
returns-in-Ok-Some-clause-failed g c = λ status. inr (_, c.sum_words.ensures.failed status, c.sum_words.ensures.unshown status)
