use Rattle.std.proofs.Common.{[], Some, ◌++◌, sym, ap, subst, ◌∙◌}
use Rattle.std.proofs.lemmas.Result.{IfOk-weaker, on_err_weaker}
use Rattle.kmc_reads.specs.Standing.{FeederState, Stands, Hands, IsSomewhere, At}
use Rattle.kmc_reads.proofs.Again.{stands_again, somewhere_again}
use Rattle.kmc_reads.proofs.PassedOn.{either_way}
use Rattle.kmc_reads.proofs.Stands.{pieces_taken}
use Rattle.kmc_reads.proofs.feeder.Feeder.take_open.Goals as goal

pub take_open-requires : goal.take_open-requires
take_open-requires c = c.self.invariant

pub invariant_of-self : goal.invariant_of-self
invariant_of-self c =
    let old = c.self.inside.scan in let new = c.take_open.new.self in let here = c.self.invariant in
    either_way {P = IsSomewhere new} c.take_open.result
    (IfOk-weaker c.take_open.result (λ reads. Hands c.args.overlap here.rows here.spot here.front reads new) (λ _. IsSomewhere new)
    (λ reads h. record { rows = []; spot = h.next; front = h.left; stands = h.stands })
    (c.take_open.ensures.taken here.rows here.spot here.front here.stands))
    (on_err_weaker c.take_open.result (λ same. somewhere_again old new same here) c.take_open.ensures.again)

pub returns-clause-stands : goal.returns-clause-stands
returns-clause-stands c = λ format text taken s.
    let at = subst (λ t. At s.rows s.spot s.front t) (sym (ap (λ v. v.scan) c.self.view_is)) s.stands in
    let next : FeederState = record { scan = c.take_open.new.self; refusal = c.self.inside.refusal } in
    IfOk-weaker c.take_open.result (λ reads. Hands c.args.overlap s.rows s.spot s.front reads c.take_open.new.self)
    (λ reads. Stands (Some c.args.overlap) format text (taken ++ reads) next)
    (λ reads h. pieces_taken c.args.overlap format text taken c.args.self.now s reads next h (ap (λ v. v.refusal) c.self.view_is ∙ s.sound))
    (c.take_open.ensures.taken s.rows s.spot s.front at)

pub returns-clause-waiting : goal.returns-clause-waiting
returns-clause-waiting c = λ rows spot front at.
    c.take_open.ensures.taken rows spot front (subst (λ t. At rows spot front t) (sym (ap (λ v. v.scan) c.self.view_is)) at)

pub returns-clause-memory : goal.returns-clause-memory
returns-clause-memory c = λ format text taken s.
    let at = subst (λ t. At s.rows s.spot s.front t) (sym (ap (λ v. v.scan) c.self.view_is)) s.stands in
    on_err_weaker c.take_open.result
    (λ same. record {
      rows = s.rows;
      spot = s.spot;
      front = s.front;
      leads = s.leads;
      stands = stands_again c.self.inside.scan c.take_open.new.self same s.rows s.spot s.front at;
      sound = ap (λ v. v.refusal) c.self.view_is ∙ s.sound;
    })
    c.take_open.ensures.again

pub returns-clause-handed : goal.returns-clause-handed
returns-clause-handed c = c.take_open.ensures.handed

pub returns-clause-refused : goal.returns-clause-refused
returns-clause-refused c = λ e refuses. ap (λ v. v.refusal) c.self.view_is ∙ refuses

pub returns-clause-still : goal.returns-clause-still
returns-clause-still c = on_err_weaker c.take_open.result
    (λ same rows spot front at. stands_again c.self.inside.scan c.take_open.new.self same rows spot front
    (subst (λ t. At rows spot front t) (sym (ap (λ v. v.scan) c.self.view_is)) at))
    c.take_open.ensures.again
