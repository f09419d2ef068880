use Rattle.std.proofs.Common.{inr}
use Rattle.kmc_slices.proofs.programs.listing.list_program.Goals as goal

pub returns-in-Ok-Some-clause-done : goal.returns-in-Ok-Some-clause-done
returns-in-Ok-Some-clause-done g c = λ status. (_, c.list_words.ensures.done status, c.list_words.ensures.shown status)

pub returns-in-Ok-Some-clause-failed : goal.returns-in-Ok-Some-clause-failed
returns-in-Ok-Some-clause-failed g c = λ status. inr (_, c.list_words.ensures.failed status, c.list_words.ensures.unshown status)
