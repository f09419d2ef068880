-- What each call answers, over the parts of the object: its shape, the counters and the items in the ring.
use Rattle.std.proofs.Common.{◌≡◌, ℕ, zero, suc, ◌+◌, ◌-◌, ◌<◌, false, true, List, [], ◌∷◌, ◌++◌, length, drop, get_or, set, map, refl, sym, ap, ◌∙◌, subst, arith}
use Rattle.std.proofs.lemmas.List.{get_or_default, length-map}
use Rattle.std.specs.Prelude.{All, slice_get, Some, None, Ok}
use Rattle.kmc_partcore.specs.declared.shape.TheConstants.{MAX_ITEMS}
use Rattle.kmc_partcore.specs.declared.shape.QueueShape.{QueueShape}
use Rattle.kmc_partcore.specs.declared.part_core.Counters.{Counters}
use Rattle.kmc_partcore.specs.declared.part_core.Queued.{Queued}
use Rattle.kmc_partcore.specs.declared.event.Event.TheVariants as event
use Rattle.kmc_partcore.specs.declared.event.Reply.TheVariants as reply
use Rattle.kmc_partcore.specs.declared.event.Received.{Received}
use Rattle.kmc_partcore.specs.declared.event.Taken.TheVariants.{Got, Empty, Finished}
use Rattle.kmc_partcore.specs.Legal.{FitsTake}
use Rattle.kmc_partcore.specs.CoreState.{CoreState, IsCore, unknown, counters_of, items_of, live_in, queued, Becomes, MovesOn}
use Rattle.kmc_partcore.proofs.Calls.{read as counters_read, waiting, below_max, core_take, put_moves, take_moves, stays, hit}

module _ {T : Type 0} (q : QueueShape) (ws : List Counters) (xs : List (Queued T)) (core : IsCore q ws xs) where
  abbrev held : CoreState T
  held = record { shape = q; writers = ws; queue = xs }

  pub put_legal : (v : ℕ) (x : T) (c : Counters) (ys : List (Queued T)) → v < q.writers → c ≡ counters_of ws v → c.registered ≡ true → c.completed
      ≡ false → c.accepted_count < MAX_ITEMS → c.accepted_count - c.left_count < q.per_writer → ys ≡ xs ++ queued v x ∷ []
      → MovesOn held (event.Put v x, reply.Put (Ok c.accepted_count)) record {
        shape = q;
        writers = set ws v
            (record c { accepted_count = c.accepted_count + 1 });
        queue = ys;
      }
  put_legal v x c ys near is registered going more below pushed = let was = waiting q ws xs v c core near is in
      put_moves held record {
        shape = q;
        writers = set ws v (record c { accepted_count = c.accepted_count + 1 });
        queue = ys;
      } v x c.accepted_count core.all_writers (
        (near, ap (λ (z : Counters). z.registered) (sym is) ∙ registered, ap (λ (z : Counters). z.completed) (sym is) ∙ going),
        subst
            (λ (z : Counters). z.accepted_count < MAX_ITEMS) is more,
        (let g : length (items_of v xs) < q.per_writer = omega arith in g),
        ap
            (λ (z : Counters). z.accepted_count) is,
      )
      (λ i. record { shape = q; writers = set ws v (record (is i) { accepted_count = c.accepted_count + 1 }); queue = pushed i })

  front : (zs : List (Queued T)) (y : Queued T) → slice_get zs 0 ≡ Some y → zs ≡ y ∷ drop 1 zs
  front [] y is = cc
  front (z ∷ zs) y is = let e : z ≡ y = cc in ap (λ u. u ∷ zs) e

  dry : (zs : List (Queued T)) → slice_get zs 0 ≡ None → zs ≡ []
  dry [] is = refl
  dry (z ∷ zs) is = cc

  -- a take where an item is in the queue
  module _ (r : ℕ) (y : Queued T) (c : Counters) (ys : List (Queued T)) (near : r < q.readers) (first : slice_get xs 0 ≡ Some y)
      (rest : ys ≡ drop 1 xs) (read : c ≡ get_or ws y.writer c) where
    abbrev given : Received T
    given = record { writer = y.writer; number = c.left_count; item = y.item }

    abbrev after : CoreState T
    after = record { shape = q; writers = set ws y.writer (record c { left_count = c.left_count + 1 }); queue = ys }

    begins : xs ≡ y ∷ ys
    begins = front xs y first ∙ ap (λ z. y ∷ z) (sym rest)

    front_core : IsCore q ws (y ∷ ys)
    front_core = subst (IsCore q ws) begins core

    counters : c ≡ counters_of ws y.writer
    counters = counters_read q ws xs y.writer c core front_core.known.0 read

    pub take_core : IsCore q (set ws y.writer (record c { left_count = c.left_count + 1 })) ys
    take_core = core_take q ws y.writer y.item ys c front_core counters

    take_becomes : Becomes held (event.Take r, reply.Take (Ok (Got given))) after
    take_becomes = (ys, begins, λ i. record { shape = q; writers = set ws y.writer (record (counters i) { left_count = c.left_count + 1 }); queue = ys })

    take_legal : MovesOn held (event.Take r, reply.Take (Ok (Got given))) after
    take_legal = take_moves held after r given core.all_writers (
      near,
      front_core.known.0,
      ap (λ (z : Counters). z.left_count) counters,
      ap (λ z. slice_get (items_of y.writer z) 0) begins ∙ ap
          (λ z. slice_get z 0) (hit y.writer (y.item ∷ items_of y.writer ys) (items_of y.writer ys)),
    )
        take_becomes

    -- the same of the value that is seen
    pub becomes_so : (v : CoreState T) → held ≡ v → Becomes v (event.Take r, reply.Take (Ok (Got given))) after
    becomes_so v is = subst (λ s. Becomes s (event.Take r, reply.Take (Ok (Got given))) after) is take_becomes

    pub legal_so : (v : CoreState T) → held ≡ v → MovesOn v (event.Take r, reply.Take (Ok (Got given))) after
    legal_so v is = subst (λ s. MovesOn s (event.Take r, reply.Take (Ok (Got given))) after) is take_legal

    -- the writer has an item that has not left
    pub one_waits : c.left_count < MAX_ITEMS
    one_waits = let was = waiting q ws (y ∷ ys) y.writer c front_core front_core.known.0 counters in let few = below_max q ws
        (y ∷ ys) y.writer c front_core front_core.known.0 counters in
        let e : length (items_of y.writer (y ∷ ys)) ≡ suc (length (items_of y.writer ys)) = ap length
        (hit y.writer (y.item ∷ items_of y.writer ys) (items_of y.writer ys)) in omega arith

  -- a take where none is
  module _ (r : ℕ) (ys : List (Queued T)) (near : r < q.readers) (none : slice_get xs 0 ≡ None) (rest : ys ≡ drop 1 xs) where
    same : ys ≡ xs
    same = rest ∙ ap (drop 1) (dry xs none) ∙ sym (dry xs none)

    is_dry : (w : ℕ) → w < q.writers → items_of w xs ≡ []
    is_dry w lt = ap (items_of w) (dry xs none)

    inside : (w : ℕ) → w < q.writers → w < length ws
    inside w lt = subst (λ n. w < n) (sym core.all_writers) lt

    total_at : (cs : List Counters) (w : ℕ) → w < length cs → slice_get (map (λ (c : Counters). c.accepted_count) cs) w ≡ Some (counters_of cs w).accepted_count
    total_at [] w lt = absurd (omega arith)
    total_at (c ∷ cs) zero lt = refl
    total_at (c ∷ cs) (suc w) lt = total_at cs w (omega arith)

    pub finished_fits : (totals : List ℕ) → All (λ (c : Counters). c.completed ≡ true) ws → totals ≡ map (λ (c : Counters). c.accepted_count) ws
        → FitsTake q (live_in held) r (Ok (Finished totals))
    finished_fits totals all are = (
      near,
      is_dry,
      λ w lt. all w unknown (inside w lt),
      (
        ap length are ∙ length-map ws (λ (c : Counters). c.accepted_count) ∙ core.all_writers,
        λ w lt. ap (λ z. slice_get z w) are ∙ total_at ws w
            (inside w lt),
      ),
    )

    pub finished_legal : (totals : List ℕ) → All (λ (c : Counters). c.completed ≡ true) ws → totals ≡ map (λ (c : Counters). c.accepted_count) ws
        → MovesOn held (event.Take r, reply.Take (Ok (Finished totals))) record { shape = q; writers = ws; queue = ys }
    finished_legal totals all are = subst (λ z. MovesOn held (event.Take r, reply.Take (Ok (Finished totals))) record {
      shape = q;
      writers = ws;
      queue = z;
    }) (sym same) (stays held (event.Take r, reply.Take (Ok (Finished totals))) (finished_fits totals all are) (λ w. (refl, refl, refl, refl)))

    pub empty_fits : ¬ All (λ (c : Counters). c.completed ≡ true) ws → FitsTake q (live_in held) r (Ok Empty)
    empty_fits some = (
      near,
      is_dry,
      λ all. some (λ k d lt. subst (λ (c : Counters). c.completed ≡ true) (get_or_default ws k unknown d lt)
          (all k (subst (λ n. k < n) core.all_writers lt))),
    )

    pub empty_legal : ¬ All (λ (c : Counters). c.completed ≡ true) ws → MovesOn held
        (event.Take r, reply.Take (Ok Empty)) record { shape = q; writers = ws; queue = ys }
    empty_legal some = subst (λ z. MovesOn held (event.Take r, reply.Take (Ok Empty)) record { shape = q; writers = ws; queue = z }) (sym same)
        (stays held (event.Take r, reply.Take (Ok Empty)) (empty_fits some) (λ w. (refl, refl, refl, refl)))
