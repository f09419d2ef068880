use Rattle.kmc_sum.proofs.arguments.sum_words.Goals as goal

pub returns-in-None-clause-done : goal.returns-in-None-clause-done
returns-in-None-clause-done g c = λ status _. c.sum_files.ensures.done status
