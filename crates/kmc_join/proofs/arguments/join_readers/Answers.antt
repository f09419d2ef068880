use Rattle.kmc_join.proofs.arguments.join_readers.Goals as goal

pub returns-in-Ok-clause-done : goal.returns-in-Ok-clause-done
returns-in-Ok-clause-done g c = λ is. ((_, c.in-Ok.ensures.ok), c.in-Ok.ensures.sound.0, c.in-Ok.ensures.sound.1)

pub returns-in-Err-clause-failed : goal.returns-in-Err-clause-failed
returns-in-Err-clause-failed g c = λ is. (c.in-Err.error, c.in-Err.ensures.cause, c.in-Err.ensures.begun.0, c.in-Err.ensures.begun.1)
