use Rattle.std.proofs.Common.{arith, refl, sym, ap, ◌∙◌, ◌≡◌, ℕ, suc, ◌+◌, ◌*◌, ◌<◌, true, subst}
use Rattle.kmc_partqueue.specs.Seats.{per_writer_of, sent_of}
use Rattle.kmc_partqueue.proofs.WriterCalls.{resting, end_call, ended_after}
use Rattle.kmc_partqueue.proofs.lanes.Lanes.complete.Given.{Over}
use Rattle.kmc_partqueue.proofs.lanes.Lanes.complete.Goals.{After-store}
use Rattle.kmc_partqueue.proofs.lanes.Lanes.complete.Goals as goal

pub store-requires : goal.store-requires
store-requires g c = let me = c.args.self.now in let vi = c.s.view_is in let n : ℕ = c.s.inside.number in let m : ℕ = c.s.inside.count in
    let near : n < me.shape.writers = subst (λ (z : ℕ). z < me.shape.writers) (sym (ap (λ v. v.number) vi)) c.requires.2 in
    let all : ℕ = me.shape.writers * me.shape.per_writer in (
      ap (λ v. v.table) vi ∙ c.requires.0,
      subst (λ (z : ℕ). n < z) (sym me.sized.0) (let x : n < 2 * me.shape.writers + all = omega arith in x),
      end_call me.table.shared.key _ _ c.s.inside.seat.me n c.s.inside.per_writer m _ _ c.s.invariant refl (let x : m + 1 ≡ suc m = omega arith in x),
    )

ended : (g : Over) (c : After-store g)
    → c.store.new.seat.me ≡ resting c.s.inside.number c.s.inside.per_writer (sent_of c.s.inside.seat.me.0) true
ended g c =
    ended_after c.s.inside.seat.me c.store.new.seat.me c.s.inside.number c.s.inside.per_writer c.s.inside.count c.s.invariant 0 c.store.ensures.2

pub invariant_of-result : goal.invariant_of-result
invariant_of-result g c = let now = ended g (goal.at.invariant_of-result g c).After-store in
    now ∙ (λ j. resting c.s.inside.number (ap (λ m. per_writer_of m.0) (sym now) j) (ap (λ m. sent_of m.0) (sym now) j) true)

pub returns : goal.returns
returns g c = let now = ended g (goal.at.returns g c).After-store in
    (λ j. record {
      table = c.store.ensures.0 j;
      number = c.s.inside.number;
      per_writer = ap (λ m. per_writer_of m.0) now j;
      sent = ap
          (λ m. sent_of m.0) now j;
    }) ∙ c.s.view_is
