use Rattle.std.proofs.Common.{ap, refl, subst, sym}
use Rattle.std.proofs.lemmas.List.Elements.{All-nil}
use Rattle.kmc_count.specs.Lemmas.PassedOn.{passed_on}
use Rattle.kmc_count.specs.Bodies.{IsDumpOfBody}
use Rattle.kmc_lists.specs.Listed.{Listed, pairs_of, IsListOf}
use Rattle.kmc_stage_two.specs.Lemmas.Judged.{asks_back, behind_here, behind_there}
use Rattle.kmc_stage_two.proofs.body.list_body.Goals as goal

pub count_into-requires-clause-takes : goal.count_into-requires-clause-takes
count_into-requires-clause-takes g c = subst (IsListOf c.args.counting.now.rule.k) (sym c.new-pairs.ensures) record { same = refl; fit = All-nil _ }

pub count_into-requires-clause-empty : goal.count_into-requires-clause-empty
count_into-requires-clause-empty g c = ap pairs_of c.new-pairs.ensures

pub returns-clause-list : goal.returns-clause-list
returns-clause-list g c = subst (IsListOf c.args.counting.now.rule.k) (sym c.shrink.ensures) c.in_ok-count_into.ensures.takes

pub returns-clause-ok : goal.returns-clause-ok
returns-clause-ok g c =
    subst (λ (v : Listed). IsDumpOfBody c.args.counting.now.rule.strands c.args.counting.now.rule.k c.args.counting.now.limits c.args.body.now (pairs_of v))
    (sym c.shrink.ensures) c.in_ok-count_into.ensures.ok

pub returns-in_err-count_into-clause-damaged : goal.returns-in_err-count_into-clause-damaged
returns-in_err-count_into-clause-damaged g c = λ fault offset is.
    c.count_into.ensures.damaged fault offset (passed_on c.count_into.result c.from_residual.result _ _ c.in_err-count_into.was c.from_residual.ensures.1 is)

pub returns-in_err-count_into-clause-memory : goal.returns-in_err-count_into-clause-memory
returns-in_err-count_into-clause-memory g c = λ is.
    c.count_into.ensures.memory (passed_on c.count_into.result c.from_residual.result _ _ c.in_err-count_into.was c.from_residual.ensures.1 is)

pub returns-in_err-count_into-clause-wrong : goal.returns-in_err-count_into-clause-wrong
returns-in_err-count_into-clause-wrong g c = λ is same of.
    let a = c.args in
    c.count_into.ensures.wrong (passed_on c.count_into.result c.from_residual.result _ _ c.in_err-count_into.was c.from_residual.ensures.1 is)
    (c.bin_behind-asked.ensures.words a.counting.now.rule.k (asks_back a.counting.now.rule.k a.place a.counting.now.asked same))
    (behind_here a.counting.now.asked c.bin_behind-asked.result a.place a.body.now c.bin_behind-asked.ensures.before of)

pub returns-clause-judged : goal.returns-clause-judged
returns-clause-judged g c =
    let a = c.args in
    behind_there a.counting.now.asked c.bin_behind-asked.result a.place a.body.now c.bin_behind-asked.ensures.behind c.in_ok-count_into.ensures.judged
