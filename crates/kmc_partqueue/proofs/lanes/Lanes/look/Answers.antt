use Rattle.std.proofs.Common.{arith, sym, ap, ◌∙◌, ◌≡◌, ℕ, ◌+◌, ◌*◌, ◌/◌, ◌%◌, ◌<◌, ◌≤◌, subst}
use Rattle.kmc_partqueue.specs.Plays.{looking}
use Rattle.kmc_partqueue.specs.declared.views.Reading.{Reading}
use Rattle.kmc_partqueue.specs.Seats.{Rests}
use Rattle.kmc_partqueue.proofs.ReaderCalls.{alone, after_head, after_ready, after_not_ready, head_call, ready_call, not_true, not_false}
use Rattle.kmc_partqueue.proofs.lanes.Lanes.look.Given.{Over}
use Rattle.kmc_partqueue.proofs.lanes.Lanes.look.Goals.{After-load-head}
use Rattle.kmc_partqueue.proofs.lanes.Lanes.look.Goals as goal

-- the head of the lane is read
looked : (g : Over) (c : After-load-head g) (b : Reading g.row.T.Denot) → Rests c.args.self.now.shape c.args.seat.now.me b
    → (c.load-head.new.seat.me ≡ alone (looking b c.args.lane c.load-head.result)) × (c.load-head.result ≤ 4294967295)
looked g c b r =
    after_head b c.args.seat.now.me c.load-head.new.seat.me c.args.self.now.table.shared.table_id.slots
    (c.args.self.now.shape.writers + c.args.lane) c.args.lane c.load-head.result r.0 (λ j. sym r.1 j + c.args.lane) c.load-head.ensures.2

pub load-head-requires : goal.load-head-requires
load-head-requires g c =
    let me = c.args.self.now in let r = c.requires.rests in let lane : ℕ = c.args.lane in
    let near : lane < me.shape.writers = c.requires.lane in
    let all : ℕ = me.shape.writers * me.shape.per_writer in let ws = sym (ap (λ q. q.writers) me.shaped) in
    let bound : me.shape.writers + lane < 2 * me.shape.writers + all = omega arith in (
      c.requires.queue,
      subst (λ (z : ℕ). me.shape.writers + lane < z) (sym me.sized.0) bound,
      head_call me.table.shared.key _ _ r.0 c.args.seat.now.me lane (me.shape.writers + lane) r.1.0 (λ j. ws j + lane) r.1.3
          (subst (λ (z : ℕ). lane < z) ws near),
    )

pub place-mark-requires : goal.place-mark-requires
place-mark-requires g c = let r = c.requires.rests in
    (c.requires.lane, (looked g (goal.at.place-mark-requires g c).After-load-head r.0 r.1).1)

pub load-seen-requires : goal.load-seen-requires
load-seen-requires g c =
    let p = (goal.at.load-seen-requires g c).After-load-head in let me = c.args.self.now in let r = c.requires.rests in
    let ws = sym (ap (λ q. q.writers) me.shaped) in let rs = sym (ap (λ q. q.per_writer) me.shaped) in (
      c.load-head.ensures.0 ∙ c.requires.queue,
      c.place-mark.ensures.inside,
      ready_call me.table.shared.key _ _ (looking r.0 c.args.lane c.load-head.result) c.load-head.new.seat.me _ (looked g p r.0 r.1).0
          (c.place-mark.ensures.mark ∙ (λ j. 2 * ws j + (c.args.lane * rs j + c.load-head.result % rs j))),
    )

pub returns-then-seen-turn-clause-head : goal.returns-then-seen-turn-clause-head
returns-then-seen-turn-clause-head g c = let r = c.requires.rests in
    (looked g (goal.at.returns-then-seen-turn-clause-head g c).After-load-head r.0 r.1).1

pub returns-then-seen-turn-clause-published : goal.returns-then-seen-turn-clause-published
returns-then-seen-turn-clause-published g c = λ _ b r.
    let p = (goal.at.returns-then-seen-turn-clause-published g c).After-load-head in let h : ℕ = c.load-head.result in
    after_ready (looking b c.args.lane h) c.load-head.new.seat.me c.load-seen.new.seat.me c.load-seen.result (looked g p b r).0 c.load-seen.ensures.2
    (c.if-seen-turn.true ∙ ap (λ (z : ℕ). z + 1) c.place-mark.ensures.turn ∙ ap (λ (z : ℕ). 2 * (h / z) + 1) (sym r.2))

pub returns-clause-head : goal.returns-clause-head
returns-clause-head g c = let r = c.requires.rests in
    (looked g (goal.at.returns-clause-head g c).After-load-head r.0 r.1).1

pub returns-clause-waits : goal.returns-clause-waits
returns-clause-waits g c = λ _ b r.
    let p = (goal.at.returns-clause-waits g c).After-load-head in let h : ℕ = c.load-head.result in
    after_not_ready (looking b c.args.lane h) c.load-head.new.seat.me c.load-seen.new.seat.me c.load-seen.result (looked g p b r).0 c.load-seen.ensures.2
    (λ e. c.if-seen-turn.false (e ∙ ap (λ (z : ℕ). 2 * (h / z) + 1) r.2 ∙ ap (λ (z : ℕ). z + 1) (sym c.place-mark.ensures.turn)))

pub returns-then-seen-turn-clause-queue : goal.returns-then-seen-turn-clause-queue
returns-then-seen-turn-clause-queue g c = c.load-seen.ensures.0 ∙ c.load-head.ensures.0

pub returns-then-seen-turn-clause-waits : goal.returns-then-seen-turn-clause-waits
returns-then-seen-turn-clause-waits g c = λ e. not_false e

pub returns-clause-queue : goal.returns-clause-queue
returns-clause-queue g c = c.load-seen.ensures.0 ∙ c.load-head.ensures.0

pub returns-clause-published : goal.returns-clause-published
returns-clause-published g c = λ e. not_true e
