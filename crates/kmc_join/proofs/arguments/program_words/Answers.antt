use Rattle.kmc_join.proofs.arguments.program_words.Goals as goal

pub returns-in-None-clause-done : goal.returns-in-None-clause-done
returns-in-None-clause-done g c = λ status _. c.run_words.ensures.done status

pub returns-in-None-clause-failed : goal.returns-in-None-clause-failed
returns-in-None-clause-failed g c = λ status _. c.run_words.ensures.failed status
