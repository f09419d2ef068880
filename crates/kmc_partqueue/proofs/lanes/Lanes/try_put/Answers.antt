use Rattle.std.proofs.Common.{refl, sym, ap, ◌∙◌, ◌≡◌, ◌≢◌, ℕ, ◌+◌, ◌*◌, ◌/◌, ◌%◌, ◌<◌, ◌≤◌, ◌++◌, ◌∷◌, [], Some, None, arith, length, subst, length-append}
use Rattle.kmc_partqueue.specs.Seats.{sent_of, AtRest}
use Rattle.kmc_partqueue.proofs.WriterCalls.{with_slot, free_call, send_call, held_after, full_after, sent_after, rests}
use Rattle.kmc_partqueue.proofs.lanes.Lanes.try_put.Given.{Over}
use Rattle.kmc_partqueue.proofs.lanes.Lanes.try_put.Goals.{After-load-found}
use Rattle.kmc_partqueue.proofs.lanes.Lanes.try_put.Goals as goal

-- the slots of the writer's lane are those of the shape
its_slots : (g : Over) (c : After-load-found g) → c.s.inside.per_writer ≡ c.args.self.now.shape.per_writer
its_slots g c = ap (λ v. v.per_writer) c.s.view_is ∙ c.requires.1

-- the writer's next slot, and its turn
at_slot : (g : Over) (c : After-load-found g)
    → c.place-slot.result.0 ≡ c.s.inside.number * c.s.inside.per_writer + c.s.inside.count % c.s.inside.per_writer
at_slot g c =
    let n : ℕ = c.s.inside.number in let m : ℕ = c.s.inside.count in let is = its_slots g c in
    c.place-slot.ensures.slot ∙ (λ j. n * sym is j + m % sym is j)

at_turn : (g : Over) (c : After-load-found g) → c.place-slot.result.2 ≡ 2 * (c.s.inside.count / c.s.inside.per_writer)
at_turn g c = let m : ℕ = c.s.inside.count in c.place-slot.ensures.turn ∙ ap (λ (z : ℕ). 2 * (m / z)) (sym (its_slots g c))

-- the slot is not yet free: the seat rests, and the lane was filled once
full : (g : Over) (c : After-load-found g) → c.load-found.result ≢ c.place-slot.result.2
    → (c.load-found.new.seat.me ≡ c.s.inside.seat.me) × (c.s.inside.per_writer ≤ c.s.inside.count)
full g c late =
    let old = c.s.inside in
    full_after old.seat.me c.load-found.new.seat.me old.number old.per_writer old.count c.s.invariant c.load-found.result c.load-found.ensures.2
    (λ e. late (e ∙ sym (at_turn g c)))

-- the slot is in the writer's hand, and empty
held : (g : Over) (c : After-load-found g) → c.load-found.result ≡ c.place-slot.result.2
    → c.load-found.new.seat.me ≡ with_slot c.s.inside.number c.s.inside.per_writer (sent_of c.s.inside.seat.me.0) c.place-slot.result.0 None
held g c free =
    let old = c.s.inside in
    held_after old.seat.me c.load-found.new.seat.me old.number old.per_writer old.count c.s.invariant c.load-found.result c.place-slot.result.0
    c.load-found.ensures.2 (free ∙ at_turn g c) (at_slot g c)

pub place-slot-requires : goal.place-slot-requires
place-slot-requires g c =
    let me = c.args.self.now in
    (subst (λ (z : ℕ). z < me.shape.writers) (sym (ap (λ v. v.number) c.s.view_is)) c.requires.2, c.s.invariant.2)

pub load-found-requires : goal.load-found-requires
load-found-requires g c =
    let me = c.args.self.now in let n : ℕ = c.s.inside.number in let m : ℕ = c.s.inside.count in
    let ws = sym (ap (λ q. q.writers) me.shaped) in let rs = sym (ap (λ q. q.per_writer) me.shaped) in (
      ap (λ v. v.table) c.s.view_is ∙ c.requires.0,
      c.place-slot.ensures.inside,
      free_call me.table.shared.key _ _ c.s.inside.seat.me n c.s.inside.per_writer m _ c.s.invariant
          (c.place-slot.ensures.mark ∙ (λ j. 2 * ws j + (n * rs j + m % rs j))),
    )

pub invariant_of-s : goal.invariant_of-s
invariant_of-s g c =
    let same = full g (goal.at.invariant_of-s g c).After-load-found c.if-found-turn.true in
    subst (λ x. AtRest x c.s.inside.number c.s.inside.per_writer c.s.inside.count) (sym same.0) c.s.invariant

pub returns-then-found-turn-clause-put : goal.returns-then-found-turn-clause-put
returns-then-found-turn-clause-put g c =
    let same = full g (goal.at.returns-then-found-turn-clause-put g c).After-load-found c.if-found-turn.true in
    (refl, ap (λ x. sent_of x.0) same.0 ∙ ap (λ v. v.sent) c.s.view_is)

pub returns-then-found-turn-clause-refused : goal.returns-then-found-turn-clause-refused
returns-then-found-turn-clause-refused g c =
    let vi = c.s.view_is in
    let late = full g (goal.at.returns-then-found-turn-clause-refused g c).After-load-found c.if-found-turn.true in
    subst (λ (z : ℕ × ℕ). z.0 ≤ z.1) (λ j. ((vi j).per_writer, (sym c.s.invariant.1 ∙ ap (λ v. length v.sent) vi) j)) late.1

pub move_in-requires : goal.move_in-requires
move_in-requires g c =
    let hand = held g (goal.at.move_in-requires g c).After-load-found c.if-found-turn.false in
    (c.load-found.ensures.0 ∙ ap (λ v. v.table) c.s.view_is ∙ c.requires.0, ap (λ x. x.1) hand)

pub store-requires : goal.store-requires
store-requires g c =
    let p = (goal.at.store-requires g c).After-load-found in let me = c.args.self.now in let old = c.s.inside in let at = c.s.invariant in
    let hand = held g p c.if-found-turn.false in let slot : ℕ = c.place-slot.result.0 in
    let n : ℕ = old.number in let m : ℕ = old.count in
    let ws = sym (ap (λ q. q.writers) me.shaped) in let rs = sym (ap (λ q. q.per_writer) me.shaped) in (
      c.move_in.ensures.0 ∙ c.load-found.ensures.0 ∙ ap (λ v. v.table) c.s.view_is ∙ c.requires.0,
      c.place-slot.ensures.inside,
      send_call me.table.shared.key _ _ c.move_in.new.seat.me n old.per_writer m slot _ _ (sent_of old.seat.me.0) c.args.part
          (c.move_in.ensures.2 ∙ (λ j. ((hand j).0, (slot, Some c.args.part) ∷ []))) at.1
          (let le : m ≤ 4294967295 = at.2 in omega arith) (at_slot g p)
          (c.place-slot.ensures.mark ∙ (λ j. 2 * ws j + (n * rs j + m % rs j)))
          (ap (λ (z : ℕ). z + 1) c.place-slot.ensures.turn ∙ (λ j. 2 * (m / rs j) + 1)),
    )

pub overflow_add-s : goal.overflow_add-s
overflow_add-s g c = let at = c.s.invariant in omega arith

pub invariant_of-s-2 : goal.invariant_of-s-2
invariant_of-s-2 g c =
    let p = (goal.at.invariant_of-s-2 g c).After-load-found in let old = c.s.inside in let at = c.s.invariant in
    let hand = held g p c.if-found-turn.false in let slot : ℕ = c.place-slot.result.0 in
    let s = sent_of old.seat.me.0 in let m : ℕ = old.count in
    rests c.store.new.seat.me old.number old.per_writer (m + 1) (s ++ c.args.part ∷ [])
    (sent_after c.move_in.new.seat.me c.store.new.seat.me old.number old.per_writer 0 slot m s c.args.part
    (c.move_in.ensures.2 ∙ (λ j. ((hand j).0, (slot, Some c.args.part) ∷ []))) at.1 (at_slot g p) c.store.ensures.2)
    (length-append s (c.args.part ∷ []) ∙ ap (λ (z : ℕ). z + 1) at.1) (let le : m ≤ 4294967295 = at.2 in omega arith)

pub returns-clause-put : goal.returns-clause-put
returns-clause-put g c =
    let p = (goal.at.returns-clause-put g c).After-load-found in let old = c.s.inside in let at = c.s.invariant in
    let hand = held g p c.if-found-turn.false in let slot : ℕ = c.place-slot.result.0 in
    let s = sent_of old.seat.me.0 in let vi = c.s.view_is in
    let put = sent_after c.move_in.new.seat.me c.store.new.seat.me old.number old.per_writer 0 slot old.count s c.args.part
    (c.move_in.ensures.2 ∙ (λ j. ((hand j).0, (slot, Some c.args.part) ∷ []))) at.1 (at_slot g p) c.store.ensures.2 in
    (sym at.1 ∙ ap (λ v. length v.sent) vi, ap (λ x. sent_of x.0) put ∙ ap (λ v. v.sent ++ c.args.part ∷ []) vi)

pub returns-then-s-eq-MAX_ITEMS-clause-seat : goal.returns-then-s-eq-MAX_ITEMS-clause-seat
returns-then-s-eq-MAX_ITEMS-clause-seat g c = (refl, refl, refl)

pub returns-then-s-eq-MAX_ITEMS-clause-put : goal.returns-then-s-eq-MAX_ITEMS-clause-put
returns-then-s-eq-MAX_ITEMS-clause-put g c = (refl, refl)

pub returns-then-s-eq-MAX_ITEMS-clause-refused : goal.returns-then-s-eq-MAX_ITEMS-clause-refused
returns-then-s-eq-MAX_ITEMS-clause-refused g c =
    sym (ap (λ v. length v.sent) c.s.view_is) ∙ c.s.invariant.1 ∙ c.if-s-eq-MAX_ITEMS.true

pub returns-then-s-eq-MAX_ITEMS-clause-spent : goal.returns-then-s-eq-MAX_ITEMS-clause-spent
returns-then-s-eq-MAX_ITEMS-clause-spent g c = λ e. refl

pub returns-then-found-turn-clause-seat : goal.returns-then-found-turn-clause-seat
returns-then-found-turn-clause-seat g c =
    let vi = c.s.view_is in (c.load-found.ensures.0 ∙ ap (λ v. v.table) vi, ap (λ v. v.number) vi, ap (λ v. v.per_writer) vi)

pub returns-then-found-turn-clause-spent : goal.returns-then-found-turn-clause-spent
returns-then-found-turn-clause-spent g c =
    λ e. absurd (c.if-s-eq-MAX_ITEMS.false (sym c.s.invariant.1 ∙ ap (λ v. length v.sent) c.s.view_is ∙ e))

pub returns-clause-seat : goal.returns-clause-seat
returns-clause-seat g c =
    let vi = c.s.view_is in (
      c.store.ensures.0 ∙ c.move_in.ensures.0 ∙ c.load-found.ensures.0 ∙ ap (λ v. v.table) vi,
      ap (λ v. v.number) vi,
      ap (λ v. v.per_writer) vi,
    )

pub returns-clause-refused : goal.returns-clause-refused
returns-clause-refused g c = tt

pub returns-clause-spent : goal.returns-clause-spent
returns-clause-spent g c =
    λ e. absurd (c.if-s-eq-MAX_ITEMS.false (sym c.s.invariant.1 ∙ ap (λ v. length v.sent) c.s.view_is ∙ e))
