use Rattle.std.proofs.Common.{◌+◌, length, sym, ap, subst, ◌∙◌, length-append}
use Rattle.std.specs.List.{concat}
use Rattle.kmc_reads.specs.Standing.{At}
use Rattle.kmc_reads.proofs.Rows.{concat_append}
use Rattle.kmc_reads.proofs.Stands.{ended_are}
use Rattle.kmc_reads.proofs.feeder.Feeder.waiting_symbols.Goals as goal

pub returns-clause-are : goal.returns-clause-are
returns-clause-are c = λ format text taken s.
    let at = subst (λ t. At s.rows s.spot s.front t) (sym (ap (λ v. v.scan) c.self.view_is)) s.stands in
    ap (λ t. length (concat t)) (ended_are format text taken c.args.self.now s) ∙ ap length (concat_append taken s.rows) ∙ length-append
    (concat taken) (concat s.rows)
    ∙ ap (λ n. length (concat taken) + n) (sym (c.symbols.ensures s.rows s.spot s.front at))

pub returns-clause-rows : goal.returns-clause-rows
returns-clause-rows c = λ rows spot front at.
    c.symbols.ensures rows spot front (subst (λ t. At rows spot front t) (sym (ap (λ v. v.scan) c.self.view_is)) at)
