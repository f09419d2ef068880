use Rattle.std.proofs.Common.{◌+◌, length, sym, ap, subst, ◌∙◌, length-append}
use Rattle.kmc_reads.specs.Standing.{At}
use Rattle.kmc_reads.proofs.Stands.{ended_are}
use Rattle.kmc_reads.proofs.feeder.Feeder.waiting.Goals as goal

pub returns-clause-are : goal.returns-clause-are
returns-clause-are c = λ format text taken s.
    let at = subst (λ t. At s.rows s.spot s.front t) (sym (ap (λ v. v.scan) c.self.view_is)) s.stands in
    ap length (ended_are format text taken c.args.self.now s) ∙ length-append taken s.rows ∙ ap (λ n. length taken + n)
    (sym (c.count.ensures s.rows s.spot s.front at))

pub returns-clause-rows : goal.returns-clause-rows
returns-clause-rows c = λ rows spot front at.
    c.count.ensures rows spot front (subst (λ t. At rows spot front t) (sym (ap (λ v. v.scan) c.self.view_is)) at)
