use Rattle.std.proofs.Common.{◌++◌, refl, sym, ap, subst, ◌∙◌, rules}
use Rattle.kmc_reads.specs.Standing.{FeederState, At}
use Rattle.kmc_reads.proofs.Again.{stands_again, somewhere_again}
use Rattle.kmc_reads.proofs.Stands.{no_fault, goes_on, meets_fault}
use Rattle.kmc_reads.proofs.feeder.Feeder.feed.Goals as goal

pub invariant_of-self : goal.invariant_of-self
invariant_of-self c =
    let here = c.self.invariant in let g = c.in-Ok.ensures.goes here.rows here.spot here.front here.stands in
    record { rows = here.rows ++ g.more; spot = g.next; front = g.left; stands = g.stands }

pub invariant_of-self-then-ne : goal.invariant_of-self-then-ne
invariant_of-self-then-ne c = somewhere_again c.self.inside.scan c.feed.new.self c.in-Err.ensures.again c.self.invariant

pub invariant_of-self-else-ne : goal.invariant_of-self-else-ne
invariant_of-self-else-ne c = somewhere_again c.self.inside.scan c.feed.new.self c.in-Err.ensures.again c.self.invariant

pub returns-in-Ok-clause-stands : goal.returns-in-Ok-clause-stands
returns-in-Ok-clause-stands c = λ cut format text taken s.
    let at = subst (λ t. At s.rows s.spot s.front t) (sym (ap (λ v. v.scan) c.self.view_is)) s.stands in
    let next : FeederState = record { scan = c.feed.new.self; refusal = c.self.inside.refusal } in
    goes_on cut format text taken c.args.self.now s c.args.block.now next (c.in-Ok.ensures.goes s.rows s.spot s.front at)
    (ap (λ v. v.refusal) c.self.view_is ∙ s.sound)

pub returns-in-Ok-clause-sound : goal.returns-in-Ok-clause-sound
returns-in-Ok-clause-sound c = λ cut format text taken s.
    let at = subst (λ t. At s.rows s.spot s.front t) (sym (ap (λ v. v.scan) c.self.view_is)) s.stands in
    let next : FeederState = record { scan = c.feed.new.self; refusal = c.self.inside.refusal } in
    no_fault cut format (text ++ c.args.block.now) taken next
    (goes_on cut format text taken c.args.self.now s c.args.block.now next (c.in-Ok.ensures.goes s.rows s.spot s.front at)
    (ap (λ v. v.refusal) c.self.view_is ∙ s.sound))

pub returns-then-ne-clause-refused : goal.returns-then-ne-clause-refused
returns-then-ne-clause-refused c = λ cut format text taken s other.
    let at = subst (λ t. At s.rows s.spot s.front t) (sym (ap (λ v. v.scan) c.self.view_is)) s.stands in
    (meets_fault cut format text taken c.args.self.now s c.args.block.now c.in-Err.e (c.in-Err.ensures.fault s.rows s.spot s.front at other), refl)

pub returns-then-ne-clause-again : goal.returns-then-ne-clause-again
returns-then-ne-clause-again c = search rules

pub returns-in-Ok-clause-again : goal.returns-in-Ok-clause-again
returns-in-Ok-clause-again c = search rules

pub returns-else-ne-clause-again : goal.returns-else-ne-clause-again
returns-else-ne-clause-again c = search rules

pub returns-else-ne-clause-memory : goal.returns-else-ne-clause-memory
returns-else-ne-clause-memory c = λ cut format text taken s is.
    let at = subst (λ t. At s.rows s.spot s.front t) (sym (ap (λ v. v.scan) c.self.view_is)) s.stands in
    record {
      rows = s.rows;
      spot = s.spot;
      front = s.front;
      leads = s.leads;
      stands = stands_again c.self.inside.scan c.feed.new.self c.in-Err.ensures.again s.rows s.spot s.front at;
      sound = ap (λ v. v.refusal) c.self.view_is ∙ s.sound;
    }

pub returns-then-ne-clause-still : goal.returns-then-ne-clause-still
returns-then-ne-clause-still c = λ rows spot front at.
    stands_again c.self.inside.scan c.feed.new.self c.in-Err.ensures.again rows spot front
    (subst (λ t. At rows spot front t) (sym (ap (λ v. v.scan) c.self.view_is)) at)

pub returns-else-ne-clause-still : goal.returns-else-ne-clause-still
returns-else-ne-clause-still c = λ rows spot front at.
    stands_again c.self.inside.scan c.feed.new.self c.in-Err.ensures.again rows spot front
    (subst (λ t. At rows spot front t) (sym (ap (λ v. v.scan) c.self.view_is)) at)
