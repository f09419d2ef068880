use Rattle.std.proofs.Common.{ℕ, List, ◌++◌, Ok, refl, sym, ap, subst, ◌∙◌, append_assoc}
use Rattle.kmc_reads.specs.Answer.{with_reads}
use Rattle.kmc_reads.specs.Standing.{At}
use Rattle.kmc_reads.proofs.Again.{stands_again, somewhere_again}
use Rattle.kmc_reads.proofs.HandedBy.{reads_by, refusal_by}
use Rattle.kmc_reads.proofs.feeder.Feeder.finish.Goals as goal

pub into_reads-requires : goal.into_reads-requires
into_reads-requires c =
    let here = c.feeder.invariant in let w = c.in-Ok.ensures.whole here.rows here.spot here.front here.stands in (here.rows ++ w.more, w.behind, w.lies)

pub invariant_of-feeder : goal.invariant_of-feeder
invariant_of-feeder c = somewhere_again c.feeder.inside.scan c.end.new.self c.in-Err.ensures.again c.feeder.invariant

pub invariant_of-feeder-else-ne : goal.invariant_of-feeder-else-ne
invariant_of-feeder-else-ne c = somewhere_again c.feeder.inside.scan c.end.new.self c.in-Err.ensures.again c.feeder.invariant

pub returns-in-Ok-clause-all : goal.returns-in-Ok-clause-all
returns-in-Ok-clause-all c = λ cut format text taken s.
    let at = subst (λ t. At s.rows s.spot s.front t) (sym (ap (λ v. v.scan) c.feeder.view_is)) s.stands in
    let w = c.in-Ok.ensures.whole s.rows s.spot s.front at in
    let rows = c.into_reads.ensures (s.rows ++ w.more) w.behind w.lies in
    reads_by format text (taken ++ s.rows) s.spot s.front cut s.leads (taken ++ c.into_reads.result)
    (ap (with_reads (taken ++ s.rows)) w.reads ∙ ap Ok (append_assoc taken s.rows w.more ∙ ap (λ (t : List (List ℕ)). taken ++ t) (sym rows)))

pub returns-then-ne-clause-refused : goal.returns-then-ne-clause-refused
returns-then-ne-clause-refused c = λ cut format text taken s other.
    let at = subst (λ t. At s.rows s.spot s.front t) (sym (ap (λ v. v.scan) c.feeder.view_is)) s.stands in (
      refusal_by format text (taken ++ s.rows) s.spot s.front cut s.leads c.in-Err.e
          (ap (with_reads (taken ++ s.rows)) (c.in-Err.ensures.refused s.rows s.spot s.front at other)),
      refl,
    )

pub returns-else-ne-clause-memory : goal.returns-else-ne-clause-memory
returns-else-ne-clause-memory c = λ cut format text taken s is.
    let at = subst (λ t. At s.rows s.spot s.front t) (sym (ap (λ v. v.scan) c.feeder.view_is)) s.stands in
    record {
      rows = s.rows;
      spot = s.spot;
      front = s.front;
      leads = s.leads;
      stands = stands_again c.feeder.inside.scan c.end.new.self c.in-Err.ensures.again s.rows s.spot s.front at;
      sound = ap (λ v. v.refusal) c.feeder.view_is ∙ s.sound;
    }

pub returns-then-ne-clause-still : goal.returns-then-ne-clause-still
returns-then-ne-clause-still c = λ rows spot front at.
    stands_again c.feeder.inside.scan c.end.new.self c.in-Err.ensures.again rows spot front
    (subst (λ t. At rows spot front t) (sym (ap (λ v. v.scan) c.feeder.view_is)) at)

pub returns-else-ne-clause-still : goal.returns-else-ne-clause-still
returns-else-ne-clause-still c = λ rows spot front at.
    stands_again c.feeder.inside.scan c.end.new.self c.in-Err.ensures.again rows spot front
    (subst (λ t. At rows spot front t) (sym (ap (λ v. v.scan) c.feeder.view_is)) at)
