use Rattle.std.proofs.Common.{arith, refl, sym, ap, ◌∙◌, ◌≡◌, ℕ, ◌+◌, ◌*◌, ◌/◌, ◌%◌, ◌<◌, ◌∷◌, [], Some, subst}
use Rattle.kmc_partqueue.specs.Plays.{taking, freeing, seen_slot_of}
use Rattle.kmc_partqueue.proofs.ReaderCalls.{alone, after_take, after_miss, after_out, after_free, take_call, free_call}
use Rattle.kmc_partqueue.proofs.lanes.Lanes.take_seen.Goals as goal

pub compare_exchange-was-requires : goal.compare_exchange-was-requires
compare_exchange-was-requires g c =
    let me = c.args.self.now in let r = c.requires.seen in let lane : ℕ = c.args.lane in
    let near : lane < me.shape.writers = c.requires.lane.0 in let all : ℕ = me.shape.writers * me.shape.per_writer in
    let ws = sym (ap (λ q. q.writers) me.shaped) in
    let bound : me.shape.writers + lane < 2 * me.shape.writers + all = omega arith in (
      c.requires.queue,
      subst (λ (z : ℕ). me.shape.writers + lane < z) (sym me.sized.0) bound,
      take_call me.table.shared.key _ _ r.0 c.args.seat.now.me (me.shape.writers + lane) c.args.head (c.args.head + 1) r.1.0
          (λ j. ws j + sym r.2 j) (sym r.3) (λ j. sym r.3 j + 1) r.4 r.1.3,
    )

pub returns-then-was-head-clause-taken : goal.returns-then-was-head-clause-taken
returns-then-was-head-clause-taken g c = λ b e h.
    after_miss b c.args.seat.now.me c.compare_exchange-was.new.seat.me c.compare_exchange-was.result e c.compare_exchange-was.ensures.2
    (λ x. c.if-was-head.true (x ∙ h)) ∙ sym e

pub move_out-item-requires-clause-holds : goal.move_out-item-requires-clause-holds
move_out-item-requires-clause-holds g c =
    let r = c.requires.seen in
    let K = after_take r.0 c.args.seat.now.me c.compare_exchange-was.new.seat.me c.compare_exchange-was.result r.1.0 c.compare_exchange-was.ensures.2
    (c.if-was-head.false ∙ sym r.3) in
    let is : seen_slot_of r.0 ≡ c.place-slot.result.0 = (λ j. r.2 j * r.1.2 j + r.3 j % r.1.2 j) ∙ sym c.place-slot.ensures.slot in
    (K.0, ap (λ m. m.1) K.1 ∙ (λ j. (is j, Some K.0) ∷ []))

pub store-requires : goal.store-requires
store-requires g c =
    let r = c.requires.seen in let me = c.args.self.now in
    let ws = sym (ap (λ q. q.writers) me.shaped) in let rs = sym (ap (λ q. q.per_writer) me.shaped) in
    let K = after_take r.0 c.args.seat.now.me c.compare_exchange-was.new.seat.me c.compare_exchange-was.result r.1.0 c.compare_exchange-was.ensures.2
    (c.if-was-head.false ∙ sym r.3) in
    let O = after_out (taking r.0 K.0) c.compare_exchange-was.new.seat.me c.move_out-item.new.seat.me K.0 c.move_out-item.result _ K.1 c.move_out-item.ensures.2 c.move_out-item.ensures.3 in (
      c.move_out-item.ensures.0 ∙ c.compare_exchange-was.ensures.0 ∙ c.requires.queue,
      c.place-slot.ensures.inside,
      free_call me.table.shared.key _ _ (taking r.0 K.0) c.move_out-item.new.seat.me _ _ O.1
          (c.place-slot.ensures.mark ∙ (λ j. 2 * ws j + (sym r.2 j * rs j + sym r.3 j % rs j)))
          (ap (λ (z : ℕ). z + 2) c.place-slot.ensures.turn ∙ (λ j. 2 * (sym r.3 j / rs j) + 2)) refl,
    )

pub returns-clause-taken : goal.returns-clause-taken
returns-clause-taken g c = λ b e h.
    let K = after_take b c.args.seat.now.me c.compare_exchange-was.new.seat.me c.compare_exchange-was.result e c.compare_exchange-was.ensures.2
    (c.if-was-head.false ∙ sym h) in
    let O = after_out (taking b K.0) c.compare_exchange-was.new.seat.me c.move_out-item.new.seat.me K.0 c.move_out-item.result _ K.1 c.move_out-item.ensures.2 c.move_out-item.ensures.3 in
    after_free (taking b K.0) c.move_out-item.new.seat.me c.store.new.seat.me 0 O.1 c.store.ensures.2
    ∙ (λ j. alone (freeing (taking b (O.0 j))))
