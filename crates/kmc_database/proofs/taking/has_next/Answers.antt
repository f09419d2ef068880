use Rattle.std.proofs.Common.{◌<◌, length, arith}
use Rattle.std.proofs.lemmas.Bool.Decides.{nat_tests}
use Rattle.kmc_sum.specs.Source.{unread}
use Rattle.kmc_database.proofs.TakenBytes.{few_are_all, length_unread}
use Rattle.kmc_database.proofs.taking.has_next.Goals as goal

pub returns-in-Ok-clause-there : goal.returns-in-Ok-clause-there
returns-in-Ok-clause-there g c = λ is.
    let long = length_unread c.fill.new.room c.in-Ok.ensures.room in grind (arith, nat_tests)

pub returns-in-Ok-clause-short : goal.returns-in-Ok-clause-short
returns-in-Ok-clause-short g c = λ is.
    let r = c.fill.new.room in
    let long = length_unread r c.in-Ok.ensures.room in
    let few : length (unread r) < c.args.size = grind (arith, nat_tests) in
    (few, few_are_all _ _ c.in-Ok.ensures.enough (omega (arith, few, c.requires.few)))
