use Rattle.std.proofs.Common.{false}
use Rattle.kmc_database.proofs.Queries.{counted_so, queried_so, same_search}
use Rattle.kmc_database.proofs.querying.query_database.Goals as goal

pub returns-clause-database : goal.returns-clause-database
returns-clause-database g c =
    let o = c.in-Ok.database in
    let told = c.in-Ok.ensures.told in
    let sound = c.in-Ok.ensures.sound in
    counted_so false _ _ c.query_opened.result
    (queried_so o _ _ _ (same_search _ _ _ _ _ _ _ _ _ _ _ _ c.in-Ok.ensures.prefix c.in-Ok.ensures.suffix sound.0 sound.1) told c.query_opened.result false (λ e. absurd (cc e))
    c.query_opened.ensures.ok)
