use Rattle.kmc_count.specs.Lemmas.PassedOn.{passed_on}
use Rattle.kmc_count.proofs.Bundled.{items_alone}
use Rattle.kmc_count.proofs.Counted.{items_moved}
use Rattle.kmc_count.proofs.bin.items_of_body.Goals as goal

pub returns-in_err-take_items-clause-damaged : goal.returns-in_err-take_items-clause-damaged
returns-in_err-take_items-clause-damaged g c = λ fault offset is.
    c.take_items.ensures.damaged fault offset
    (passed_on c.take_items.result c.from_residual.result _ _ c.in_err-take_items.was c.from_residual.ensures.1 is)

pub returns-clause-ok : goal.returns-clause-ok
returns-clause-ok g c =
    let rule = c.args.form.rule in
    items_moved rule.strands rule.k c.args.form.bits c.args.body.now _ _ c.sort.ensures.moved
    (items_alone rule.strands rule.k c.args.form.bits c.args.body.now _ _ c.in_ok-take_items.ensures.ok)
