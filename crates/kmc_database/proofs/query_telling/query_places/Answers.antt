use Rattle.kmc_database.proofs.query_telling.query_places.Goals as goal

pub returns-in-Ok-clause-database : goal.returns-in-Ok-clause-database
returns-in-Ok-clause-database g c = λ is f pairs p s known_p known_s d.
    (c.in-Ok.field-0, c.in-Ok.ensures.database f pairs p s known_p known_s d)
