use Rattle.std.proofs.Common.{Some, refl}
use Rattle.kmc_slices.proofs.programs.gathering.add_records.Goals as goal

pub returns-in-Ok-clause-ok : goal.returns-in-Ok-clause-ok
returns-in-Ok-clause-ok g c = λ readings have.
    (_, _, (Some c.in-Some.reader, c.in-Some.ensures, refl), c.in-Ok.ensures.ok readings have)
