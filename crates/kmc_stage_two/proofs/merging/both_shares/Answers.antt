use Rattle.std.proofs.Common.{IfOk, refl, subst}
use Rattle.std.proofs.lemmas.Result.{IfOk-weaker}
use Rattle.kmc_stage_two.specs.Shares.{IsDumpOfShare}
use Rattle.kmc_stage_two.proofs.ShareDumps.{shares_joined}
use Rattle.kmc_stage_two.proofs.merging.both_shares.Goals as goal

pub returns : goal.returns
returns g c = λ f l low high lists next up more front back.
    let k = c.args.k in
    let here = subst (λ r. IfOk r (IsDumpOfShare k f l low.first low.last lists)) c.in_ok-pairs.was front in
    let there = subst (λ r. IfOk r (IsDumpOfShare k f l high.first high.last lists)) c.in_ok-more.was back in
    IfOk-weaker c.joined.result _ _ (λ e is. shares_joined k f l lists low.first high.last low high
    c.in_ok-pairs.pairs c.in_ok-more.more e refl next refl up more here there is) c.joined.ensures
