use Rattle.std.proofs.Common.{◌≡◌, ℕ, List, [], ◌++◌, sym, ap, subst, ◌∙◌}
use Rattle.std.proofs.lemmas.Result.{IfOk-weaker, on_err_weaker}
use Rattle.kmc_reads.specs.declared.scan.Scan.{Scan}
use Rattle.kmc_reads.specs.Standing.{FeederState, Stands, IsSomewhere, At}
use Rattle.kmc_reads.specs.Stages.{ended}
use Rattle.kmc_reads.proofs.PassedOn.{either_way}
use Rattle.kmc_reads.proofs.Stands.{ended_are, rows_taken}
use Rattle.kmc_reads.proofs.feeder.Feeder.take.Goals as goal

pub take-requires : goal.take-requires
take-requires c = c.self.invariant

pub invariant_of-self : goal.invariant_of-self
invariant_of-self c =
    let new = c.take.new.self in let here = c.self.invariant in
    either_way {P = IsSomewhere new} c.take.result
    (IfOk-weaker c.take.result (λ reads. (reads ≡ here.rows) × At [] here.spot here.front new) (λ _. IsSomewhere new)
    (λ reads h. record { rows = []; spot = here.spot; front = here.front; stands = h.1 })
    (c.take.ensures.taken here.rows here.spot here.front here.stands))
    (on_err_weaker c.take.result (λ same. subst IsSomewhere (sym same) here) c.take.ensures.same)

pub returns-clause-all : goal.returns-clause-all
returns-clause-all c = λ format text taken s.
    let at = subst (λ t. At s.rows s.spot s.front t) (sym (ap (λ v. v.scan) c.self.view_is)) s.stands in
    IfOk-weaker c.take.result (λ reads. (reads ≡ s.rows) × At [] s.spot s.front c.take.new.self) (λ reads. ended format text ≡ taken ++ reads)
    (λ reads h. ended_are format text taken c.args.self.now s ∙ ap (λ (t : List (List ℕ)). taken ++ t) (sym h.0))
    (c.take.ensures.taken s.rows s.spot s.front at)

pub returns-clause-stands : goal.returns-clause-stands
returns-clause-stands c = λ cut format text taken s.
    let at = subst (λ t. At s.rows s.spot s.front t) (sym (ap (λ v. v.scan) c.self.view_is)) s.stands in
    let next : FeederState = record { scan = c.take.new.self; refusal = c.self.inside.refusal } in
    IfOk-weaker c.take.result (λ reads. (reads ≡ s.rows) × At [] s.spot s.front c.take.new.self)
    (λ reads. (reads ≡ s.rows) × Stands cut format text (taken ++ reads) next)
    (λ reads h. (h.0, rows_taken cut format text taken c.args.self.now s reads next h.0 h.1 (ap (λ v. v.refusal) c.self.view_is ∙ s.sound)))
    (c.take.ensures.taken s.rows s.spot s.front at)

pub returns-clause-waiting : goal.returns-clause-waiting
returns-clause-waiting c = λ rows spot front at.
    c.take.ensures.taken rows spot front (subst (λ t. At rows spot front t) (sym (ap (λ v. v.scan) c.self.view_is)) at)

pub returns-clause-memory : goal.returns-clause-memory
returns-clause-memory c =
    let with_scan : Scan → FeederState = λ t. record { scan = t; refusal = c.self.inside.refusal } in
    on_err_weaker c.take.result (λ same. ap with_scan same ∙ c.self.view_is) c.take.ensures.same

pub returns-clause-refused : goal.returns-clause-refused
returns-clause-refused c = λ e refuses. ap (λ v. v.refusal) c.self.view_is ∙ refuses
