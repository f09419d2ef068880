use Rattle.std.proofs.Common.{◌≡◌, List, ℕ, ◌++◌, subst}
use Rattle.std.specs.Result.{OnOk}
use Rattle.kmc_base.specs.Record.{spelling}
use Rattle.kmc_base.proofs.Copied.{window_in_sixteen}
use Rattle.kmc_base.proofs.copying.push_record_from.Goals as goal

pub returns-clause-ok : goal.returns-clause-ok
returns-clause-ok c =
    let bytes = c.in-Some.bytes.now in
    subst (λ (w : List ℕ). OnOk c.push_short_record.result (c.push_short_record.new.out.items ≡ c.args.out.now.items ++ spelling c.args.k w))
    (window_in_sixteen c.args.packed.now bytes c.args.start c.args.symbols c.if-symbols-le-MOST_AT_ONCE.true c.in-Some.ensures.cases.same)
    c.push_short_record.ensures.ok
