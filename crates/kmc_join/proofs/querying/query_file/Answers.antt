use Rattle.std.proofs.Common.{inr}
use Rattle.kmc_join.proofs.Asked.{query_answered, query_left}
use Rattle.kmc_join.proofs.querying.query_file.Goals as goal

pub returns-clause-done : goal.returns-clause-done
returns-clause-done g c = λ is.
    let done = c.query_readers.ensures.done is in
    (query_answered _ _ _ _ _ _ _ _ _ c.requires.asks done.0.1, done.2)

pub returns-clause-failed : goal.returns-clause-failed
returns-clause-failed g c = λ is.
    let left = c.query_readers.ensures.failed is in
    inr (query_left _ _ _ _ _ _ _ left.0 c.requires.asks left.1)
