-- What one call makes of the object, and of the live part that it holds.
use Rattle.std.proofs.Common.{◌≡◌, ◌≢◌, ℕ, suc, ◌+◌, ◌-◌, ◌*◌, ◌<◌, ◌≤◌, eqb, cond, Bool, true, false, List, [], ◌∷◌, ◌++◌, length, drop, get_or, set, refl, sym, ap, ◌∙◌, subst, arith, add-zero, eq-eqb, length-append, length-set, get_or-set_same, get_or-set_other, ⊎_elim}
use Rattle.std.proofs.lemmas.List.{append-nil, get_or_read, get_or-replicate}
use Rattle.std.proofs.lemmas.Bool.Decides.{eqb_tells}
use Rattle.std.proofs.lemmas.Grind.{common_steps}
use Rattle.std.specs.Prelude.{Ok, not}
use Rattle.kmc_partcore.specs.declared.shape.TheConstants.{MAX_ITEMS}
use Rattle.kmc_partcore.specs.declared.shape.QueueShape.{QueueShape}
use Rattle.kmc_partcore.specs.declared.part_core.Counters.{Counters}
use Rattle.kmc_partcore.specs.declared.part_core.Queued.{Queued}
use Rattle.kmc_partcore.specs.declared.event.Event.TheVariants as event
use Rattle.kmc_partcore.specs.declared.event.Reply.TheVariants as reply
use Rattle.kmc_partcore.specs.declared.event.Taken.TheVariants.{Got}
use Rattle.kmc_partcore.specs.declared.event.Received.{Received}
use Rattle.kmc_partcore.specs.History.{Entry, Leaving, registers, completes, item_accepted, item_left}
use Rattle.kmc_partcore.specs.State.{LiveWriter, LiveQueue, state_of, live_of, advanced, live_after}
use Rattle.kmc_partcore.specs.Legal.{Fits, FitsPut, FitsTake}
use Rattle.kmc_partcore.specs.CoreState.{CoreState, IsCore, AllKnown, unknown, counters_of, items_of, live_writer, live_in, queued, Becomes, Holds, MovesOn, opening}
use Rattle.kmc_partcore.proofs.Advancing.{live_advances}
use Rattle.kmc_partcore.proofs.Room.{items_push, known_push, length_room}

pub not_false : (b : Bool) → not b ≡ false → b ≡ true
not_false true e = refl
not_false false e = cc

pub other : (v w : ℕ) → eqb v w ≡ false → w ≢ v
other v w off same = let t : eqb v w ≡ true = eq-eqb v w (sym same) in cc

pub hit : {A : Type 0} (v : ℕ) (x y : A) → cond (eqb v v) x y ≡ x
hit v x y = ap (λ b. cond b x y) (eq-eqb v v refl)

module _ {T : Type 0} where
  nothing : (l : LiveWriter T) → advanced false false [] [] l ≡ l
  nothing l = λ i. record {
    registered = l.registered;
    completed = l.completed;
    accepted_count = add-zero l.accepted_count i;
    left_count = add-zero l.left_count i;
    outstanding_items = append-nil l.outstanding_items i;
  }

  -- one writer's counters and items were changed: here, and elsewhere
  module _ (ws : List Counters) (v : ℕ) (c : Counters) (near : v < length ws) (xs ys : ℕ → List T) (r k : ℕ → Bool) (a : ℕ → List T)
      (l : ℕ → List (Leaving T)) where
    abbrev Advances : ℕ → Type 0
    Advances w = live_writer (counters_of (set ws v c) w) (ys w) ≡ advanced (r w) (k w) (a w) (l w) (live_writer (counters_of ws w) (xs w))

    spot : live_writer c (ys v) ≡ advanced (r v) (k v) (a v) (l v) (live_writer (counters_of ws v) (xs v))
        → ((w : ℕ) → eqb v w ≡ false → (ys w ≡ xs w) × (r w ≡ false) × (k w ≡ false) × (a w ≡ []) × (l w ≡ [])) → (w : ℕ) → Advances w
    spot here off w = ⊎_elim
        (λ (t : (eqb v w ≡ true) × (v ≡ w)). subst Advances t.1 (ap (λ z. live_writer z (ys v)) (get_or-set_same ws v c unknown near) ∙ here))
        (λ (f : (eqb v w ≡ false) × _). let o = off w f.0 in
        ap (λ z. live_writer z (ys w)) (get_or-set_other ws v w c unknown (other v w f.0)) ∙ ap (live_writer (counters_of ws w)) o.0 ∙ sym
        (nothing (live_writer (counters_of ws w) (xs w)))
        ∙ (λ i. advanced (sym o.1 i) (sym o.2 i) (sym o.3 i) (sym o.4 i) (live_writer (counters_of ws w) (xs w))))
        (eqb_tells v w)

  -- the live part that the object holds after a put
  pub held_put : (s : CoreState T) (v : ℕ) (x : T) (n : ℕ) → v < length s.writers → n ≡ (counters_of s.writers v).accepted_count → (w : ℕ)
      → live_in (record s {
        writers = set s.writers v (record (counters_of s.writers v) { accepted_count = n + 1 });
        queue = s.queue ++ queued v x
            ∷ [];
      }) w ≡ live_after (event.Put v x, reply.Put (Ok n)) (live_in s) w
  held_put s v x n near is w = spot s.writers v (record (counters_of s.writers v) { accepted_count = n + 1 }) near (λ u. items_of u s.queue)
      (λ u. items_of u (s.queue ++ queued v x ∷ []))
      (λ _. false) (λ _. false) (λ u. cond (eqb v u) (x ∷ []) []) (λ _. [])
      (λ i. record {
        registered = (counters_of s.writers v).registered;
        completed = (counters_of s.writers v).completed;
        accepted_count = (ap (λ m. m + 1) is ∙ ap (λ z. (counters_of s.writers v).accepted_count + length z) (sym (hit v (x ∷ []) []))) i;
        left_count = sym (add-zero (counters_of s.writers v).left_count) i;
        outstanding_items = items_push v s.queue (queued v x) i;
      })
      (λ u f. (
        items_push u s.queue (queued v x) ∙ ap (λ b. items_of u s.queue ++ cond b (x ∷ []) []) f ∙ append-nil (items_of u s.queue),
        refl,
        refl,
        ap (λ b. cond b (x ∷ []) []) f,
        refl,
      )) w

  -- and after a take that gave an item
  pub held_take : (s : CoreState T) (r v n : ℕ) (x : T) (rest : List (Queued T)) → v < length s.writers → n ≡ (counters_of s.writers v).left_count
      → s.queue ≡ queued v x ∷ rest → (w : ℕ)
      → live_in (record s { writers = set s.writers v (record (counters_of s.writers v) { left_count = n + 1 }); queue = rest }) w ≡ live_after
      (event.Take r, reply.Take (Ok (Got record { writer = v; number = n; item = x }))) (live_in s) w
  held_take s r v n x rest near is front w = let gone : List (Leaving T) = (r, n, x) ∷ [] in let none : List (Leaving T) = [] in
      let remaining : items_of v rest ≡ drop (length (cond (eqb v v) gone none)) (items_of v s.queue ++ []) = sym (append-nil (items_of v rest)) ∙ ap
      (λ z. drop 1 (z ++ [])) (sym (hit v (x ∷ items_of v rest) (items_of v rest)) ∙ ap (items_of v) (sym front)) ∙ ap
      (λ z. drop (length z) (items_of v s.queue ++ [])) (sym (hit v gone none)) in
      spot s.writers v (record (counters_of s.writers v) { left_count = n + 1 }) near (λ u. items_of u s.queue) (λ u. items_of u rest)
      (λ _. false) (λ _. false) (λ _. []) (λ u. cond (eqb v u) gone none)
      (λ i. record {
        registered = (counters_of s.writers v).registered;
        completed = (counters_of s.writers v).completed;
        accepted_count = sym
            (add-zero (counters_of s.writers v).accepted_count) i;
        left_count =
            (ap (λ m. m + 1) is ∙ ap (λ z. (counters_of s.writers v).left_count + length z) (sym (hit v gone none))) i;
        outstanding_items = remaining i;
      })
      (λ u f. (
        ap (λ b. cond b (x ∷ items_of u rest) (items_of u rest)) (sym f) ∙ ap (items_of u) (sym front),
        refl,
        refl,
        refl,
        ap
            (λ b. cond b gone none) f,
      )) w

  fits_agree : (q : QueueShape) (a b : LiveQueue T) → ((w : ℕ) → w < q.writers → b w ≡ a w) → (e : Entry T) → Fits q a e → Fits q b e
  fits_agree q a b agree e fits = grind (arith, common_steps)

  -- the entry is legal wherever it fits what the object holds
  pub moves : (s s' : CoreState T) (e : Entry T) → s'.shape ≡ s.shape → Fits s.shape (live_in s) e
      → ((w : ℕ) → live_in s' w ≡ live_after e (live_in s) w) → MovesOn s e s'
  moves s s' e shape fits held h legal holds = (
    (fits_agree s.shape (live_in s) (live_of (state_of h)) holds e fits, legal),
    λ w lt. live_advances T s.shape h legal e w
        ∙ ap (advanced (registers w e) (completes w e) (item_accepted w e) (item_left w e))
        (holds w (subst (λ (q : QueueShape). w < q.writers) shape lt)) ∙ sym (held w),
  )

  -- of a call that changed nothing
  pub stays : (s : CoreState T) (e : Entry T) → Fits s.shape (live_in s) e
      → ((w : ℕ) → (registers w e ≡ false) × (completes w e ≡ false) × (item_accepted w e ≡ []) × (item_left w e ≡ [])) → MovesOn s e s
  stays s e fits quiet = moves s s e refl fits (λ w. sym (nothing (live_in s w))
      ∙ (let o = quiet w in λ i. advanced (sym o.0 i) (sym o.1 i) (sym o.2 i) (sym o.3 i) (live_in s w)))

  pub put_moves : (s s' : CoreState T) (v : ℕ) (x : T) (n : ℕ) → length s.writers ≡ s.shape.writers → FitsPut s.shape (live_in s) v x (Ok n)
      → Becomes s (event.Put v x, reply.Put (Ok n)) s' → MovesOn s (event.Put v x, reply.Put (Ok n)) s'
  put_moves s s' v x n long fits is = moves s s' (event.Put v x, reply.Put (Ok n)) (ap (λ (z : CoreState T). z.shape) is) fits
      (λ w. ap (λ z. live_in z w) is ∙ held_put s v x n (subst (λ m. v < m) (sym long) fits.0.0) fits.3 w)

  pub take_moves : (s s' : CoreState T) (r : ℕ) (g : Received T) → length s.writers ≡ s.shape.writers → FitsTake s.shape (live_in s) r (Ok (Got g))
      → Becomes s (event.Take r, reply.Take (Ok (Got g))) s' → MovesOn s (event.Take r, reply.Take (Ok (Got g))) s'
  take_moves s s' r g long fits is = moves s s' (event.Take r, reply.Take (Ok (Got g))) (ap (λ (z : CoreState T). z.shape) is.2) fits
      (λ w. ap (λ z. live_in z w) is.2 ∙ held_take s r g.writer g.number g.item is.0 (subst (λ m. g.writer < m) (sym long) fits.1) fits.2 is.1 w)

  -- the invariant, after one writer's counters and items were changed
  pub core_set : (q : QueueShape) (ws : List Counters) (xs ys : List (Queued T)) (v : ℕ) (c : Counters) → IsCore q ws xs → v < q.writers
      → AllKnown q.writers ys → c.accepted_count ≡ c.left_count + length (items_of v ys) → length (items_of v ys) ≤ q.per_writer
      → c.accepted_count ≤ MAX_ITEMS → ((w : ℕ) → eqb v w ≡ false → items_of w ys ≡ items_of w xs) → IsCore q (set ws v c) ys
  core_set q ws xs ys v c core near known counted room few off = record {
    all_writers = length-set ws v c ∙ core.all_writers;
    known = known;
    counted = λ w lt. ⊎_elim
        (λ (t : (eqb v w ≡ true) × (v ≡ w)). subst (λ u. (counters_of (set ws v c) u).accepted_count
        ≡ (counters_of (set ws v c) u).left_count + length (items_of u ys)) t.1
        (subst (λ (z : Counters). z.accepted_count ≡ z.left_count + length (items_of v ys))
        (sym (get_or-set_same ws v c unknown (subst (λ n. v < n) (sym core.all_writers) near))) counted))
        (λ (f : (eqb v w ≡ false) × _). subst (λ (z : Counters). z.accepted_count ≡ z.left_count + length (items_of w ys))
        (sym (get_or-set_other ws v w c unknown (other v w f.0)))
        (subst (λ z. (counters_of ws w).accepted_count ≡ (counters_of ws w).left_count + length z) (sym (off w f.0)) (core.counted w lt)))
        (eqb_tells v w);
    room = λ w lt. ⊎_elim (λ (t : (eqb v w ≡ true) × (v ≡ w)). subst (λ u. length (items_of u ys) ≤ q.per_writer) t.1 room)
        (λ (f : (eqb v w ≡ false) × _). subst (λ z. length z ≤ q.per_writer) (sym (off w f.0)) (core.room w lt)) (eqb_tells v w);
    numbers = λ w lt. ⊎_elim
        (λ (t : (eqb v w ≡ true) × (v ≡ w)). subst (λ u. (counters_of (set ws v c) u).accepted_count ≤ MAX_ITEMS) t.1
        (subst (λ (z : Counters). z.accepted_count ≤ MAX_ITEMS) (sym
        (get_or-set_same ws v c unknown (subst (λ n. v < n) (sym core.all_writers) near))) few))
        (λ (f : (eqb v w ≡ false) × _). subst (λ (z : Counters). z.accepted_count ≤ MAX_ITEMS)
        (sym (get_or-set_other ws v w c unknown (other v w f.0))) (core.numbers w lt))
        (eqb_tells v w);
  }

  -- what the code reads at a writer's place
  pub read : (q : QueueShape) (ws : List Counters) (xs : List (Queued T)) (v : ℕ) (c : Counters) → IsCore q ws xs → v < q.writers → c ≡ get_or ws v c
      → c ≡ counters_of ws v
  read q ws xs v c core near is = get_or_read ws v c (subst (λ n. v < n) (sym core.all_writers) near) is unknown

  -- as many items of a writer are in the queue as were accepted and have not left
  pub waiting : (q : QueueShape) (ws : List Counters) (xs : List (Queued T)) (v : ℕ) (c : Counters) → IsCore q ws xs → v < q.writers → c
      ≡ counters_of ws v → c.accepted_count ≡ c.left_count + length (items_of v xs)
  waiting q ws xs v c core near is = subst (λ (z : Counters). z.accepted_count ≡ z.left_count + length (items_of v xs)) (sym is) (core.counted v near)

  pub below_max : (q : QueueShape) (ws : List Counters) (xs : List (Queued T)) (v : ℕ) (c : Counters) → IsCore q ws xs → v < q.writers → c
      ≡ counters_of ws v → c.accepted_count ≤ MAX_ITEMS
  below_max q ws xs v c core near is = subst (λ (z : Counters). z.accepted_count ≤ MAX_ITEMS) (sym is) (core.numbers v near)

  -- what a put by writer v makes of the invariant
  pub core_put : (q : QueueShape) (ws : List Counters) (xs : List (Queued T)) (v : ℕ) (x : T) (c : Counters) → IsCore q ws xs → v < q.writers → c
      ≡ counters_of ws v → c.accepted_count < MAX_ITEMS → c.accepted_count - c.left_count < q.per_writer → IsCore q
      (set ws v (record c { accepted_count = c.accepted_count + 1 })) (xs ++ queued v x ∷ [])
  core_put q ws xs v x c core near is few below = let more : items_of v (xs ++ queued v x ∷ []) ≡ items_of v xs ++ x ∷ [] = items_push v xs
      (queued v x) ∙ ap (λ z. items_of v xs ++ z) (hit v (x ∷ []) []) in
      let long : length (items_of v (xs ++ queued v x ∷ [])) ≡ length (items_of v xs) + 1 = ap length more ∙ length-append (items_of v xs)
      (x ∷ []) in let was = waiting q ws xs v c core near is in
      core_set q ws xs (xs ++ queued v x ∷ []) v (record c { accepted_count = c.accepted_count + 1 }) core near
      (known_push q.writers xs (queued v x) core.known near) (omega arith) (omega arith) (omega arith)
      (λ w f. items_push w xs (queued v x) ∙ ap (λ b. items_of w xs ++ cond b (x ∷ []) []) f ∙ append-nil (items_of w xs))

  -- where a writer may put, the ring has a place
  pub has_place : (q : QueueShape) (ws : List Counters) (xs : List (Queued T)) (v : ℕ) (x : T) (c : Counters) → IsCore q ws xs → v < q.writers → c
      ≡ counters_of ws v → c.accepted_count < MAX_ITEMS → c.accepted_count - c.left_count < q.per_writer → length xs < q.writers * q.per_writer
  has_place q ws xs v x c core near is few below = let after = core_put q ws xs v x c core near is few below in let r =
      length_room q.per_writer q.writers (xs ++ queued v x ∷ []) after.known after.room in let e = length-append xs (queued v x ∷ []) in
      let all : ℕ = q.writers * q.per_writer in
      let r' : length (xs ++ queued v x ∷ []) ≤ all = r in omega arith

  -- what a take of the first item makes of the invariant
  pub core_take : (q : QueueShape) (ws : List Counters) (v : ℕ) (x : T) (rest : List (Queued T)) (c : Counters) → IsCore q ws (queued v x ∷ rest) → c
      ≡ counters_of ws v → IsCore q (set ws v (record c { left_count = c.left_count + 1 })) rest
  core_take q ws v x rest c core is = let near = core.known.0 in let long : length (items_of v (queued v x ∷ rest)) ≡ suc
      (length (items_of v rest)) = ap length (hit v (x ∷ items_of v rest) (items_of v rest)) in
      let was = waiting q ws (queued v x ∷ rest) v c core near is in let room = core.room v near in
      core_set q ws (queued v x ∷ rest) rest v (record c { left_count = c.left_count + 1 }) core near core.known.1 (omega arith) (omega arith)
      (below_max q ws (queued v x ∷ rest) v c core near is)
      (λ w f. ap (λ b. cond b (x ∷ items_of w rest) (items_of w rest)) (sym f))

  -- of a new queue
  pub opening_holds : (q : QueueShape) → Holds {T = T} (opening q) []
  opening_holds q w lt = λ i. live_writer (sym (get_or-replicate q.writers w unknown unknown lt) i) []
