use Rattle.std.proofs.Common.{◌∙◌, arith}
use Rattle.std.proofs.lemmas.Grind.{common_steps}
use Rattle.std.proofs.lemmas.List.{length-map}
use Rattle.kmc_device.specs.Device.{Watched}
use Rattle.kmc_sum.specs.Lemmas.Beginnings.{sources_built}
use Rattle.kmc_join.proofs.Answers.{after_opening, given_up}
use Rattle.kmc_join.proofs.Steps.{abreast_start, begun_none}
use Rattle.kmc_join.proofs.joining.join_in.Goals as goal

pub returns-in_err-k : goal.returns-in_err-k
returns-in_err-k g c =
    given_up _ _ c.args.rule c.args.limits.now _ _ _ _ _ c.from_residual.result _ c.from_residual.ensures.1 c.in_err-k.ensures.fault
    (1, begun_none _ (length-map c.args.readers.now _ ∙ c.requires.two) c.args.rule 1 c.args.limits.now _ _ (c.in_err-k.ensures.lost 1))

pub returns : goal.returns
returns g c =
    let left = λ (r : Watched g.row.R.Denot). g.R.Read.remaining r.inner in
    let are = sources_built left c.args.readers.now _ _ _ _ c.build.new.heads _ c.build.ensures.leaves (c.open.auto.heads ∙ c.requires.heads)
    c.in_ok-k.ensures.sources in
    after_opening _ _ c.args.rule c.args.limits.now _ c.args.readers.now _ _ _ c.open.new.readers c.drain.result c.in_ok-k.ensures.kept
    (c.drain.ensures _ (abreast_start _ (length-map c.args.readers.now left ∙ c.requires.two) _ _ _ _ are))

pub drain-requires-clause-ready : goal.drain-requires-clause-ready
drain-requires-clause-ready g c = grind (arith, common_steps)
