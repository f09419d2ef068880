use Rattle.std.proofs.Common.{inr}
use Rattle.kmc_join.proofs.arguments.program.Goals as goal

pub returns-in-Ok-Some-clause-done : goal.returns-in-Ok-Some-clause-done
returns-in-Ok-Some-clause-done g c = λ status. (_, c.program_words.ensures.done status, c.program_words.ensures.shown status)

pub returns-in-Ok-Some-clause-failed : goal.returns-in-Ok-Some-clause-failed
returns-in-Ok-Some-clause-failed g c = λ status. inr (_, c.program_words.ensures.failed status, c.program_words.ensures.unshown status)
