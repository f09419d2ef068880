use Rattle.std.proofs.Common.{arith, sym, ap, ◌∙◌, ◌≡◌, ℕ, suc, ◌+◌, ◌*◌, ◌<◌, subst}
use Rattle.kmc_partqueue.specs.Ends.{SawAllEnds}
use Rattle.kmc_partqueue.proofs.ReaderCalls.{after_end, after_no_end, end_call}
use Rattle.kmc_partqueue.proofs.lanes.Lanes.sees_end.Goals as goal

pub load-end-requires : goal.load-end-requires
load-end-requires g c =
    let me = c.args.self.now in let r = c.requires.open in let lane : ℕ = c.args.lane in
    let near : lane < me.shape.writers = c.requires.lane.0 in let all : ℕ = me.shape.writers * me.shape.per_writer in
    let bound : lane < 2 * me.shape.writers + all = omega arith in (
      c.requires.queue,
      subst (λ (z : ℕ). lane < z) (sym me.sized.0) bound,
      end_call me.table.shared.key _ _ r.0 c.args.seat.now.me lane r.1 (sym r.2)
          (λ seen. r.3 (subst (λ (z : ℕ). SawAllEnds z r.0.ends) (ap (λ q. q.writers) me.shaped) seen)),
    )

pub returns-then-end-head-clause-ended : goal.returns-then-end-head-clause-ended
returns-then-end-head-clause-ended g c = λ _ b e h.
    let n : ℕ = c.args.head in let next : n + 1 ≡ suc n = omega arith in
    after_end b c.args.seat.now.me c.load-end.new.seat.me c.load-end.result e c.load-end.ensures.2 (c.if-end-head.true ∙ next ∙ ap suc (sym h))

pub returns-clause-open : goal.returns-clause-open
returns-clause-open g c = λ _ b e h.
    let n : ℕ = c.args.head in let next : n + 1 ≡ suc n = omega arith in
    after_no_end b c.args.seat.now.me c.load-end.new.seat.me c.load-end.result e c.load-end.ensures.2
    (λ x. c.if-end-head.false (x ∙ ap suc h ∙ sym next)) ∙ sym e
