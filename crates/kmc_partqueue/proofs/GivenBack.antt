-- A part that has left its lane is in the hand of a reader, or its slot's mark is that of a later use.
use Rattle.std.proofs.Common.{◌≡◌, ℕ, suc, ◌+◌, ◌*◌, ◌/◌, ◌%◌, ◌<◌, ◌≤◌, ◌⊎◌, true, false, List, [], ◌∷◌, ◌++◌, length, get_or, set, refl, sym, ap, ◌∙◌, subst, inl, inr, ⊎_elim, mod-lt, arith, get_or-set_same}
use mathlib.Core.Option.{some, some-injective}
use mathlib.Core.Logic.{dite}
use native.Mathlib.Decide.{ℕ_discrete}
use lib.ListN.{get_elem?}
use Rattle.atomic_table.proofs.Lists.{set_else, at_longer, at_last}
use Rattle.kmc_partcore.specs.declared.shape.QueueShape.{QueueShape}
use Rattle.kmc_partcore.specs.History.{History}
use Rattle.kmc_partqueue.specs.declared.views.Reading.{Reading}
use Rattle.kmc_partqueue.specs.declared.views.View.{View}
use Rattle.kmc_partqueue.specs.Counts.{Among}
use Rattle.kmc_partqueue.specs.Lane.{CellOk}
use Rattle.kmc_partqueue.specs.Rule.{head_at, end_at, mark_at, slot_at, LanesRule}
use Rattle.kmc_partqueue.specs.Dealing.{one_of_writers, one_of_readers, no_writer, its_writer, no_reader, its_reader, both, spent}
use Rattle.kmc_partqueue.specs.Plays.{seeing, taking, ending}
use Rattle.kmc_partqueue.specs.Steps as step
use Rattle.kmc_partqueue.specs.Steps.{IsStep, AreSteps}
use Rattle.kmc_partqueue.specs.Reached.{opened, IsReached}
use Rattle.kmc_partqueue.specs.PartPlaces.{HoldsSlot}
use Rattle.kmc_partqueue.proofs.Members.{nobody, only, among_left, among_right, first_or_rest, set_at}
use Rattle.kmc_partqueue.proofs.Turns.{later_use, next_use, next_slot}
use Rattle.kmc_partqueue.proofs.Frame.{St}
use Rattle.kmc_partqueue.proofs.Places.{mark_within, mark_head, mark_mark, head_head, head_mark, end_head, end_mark}
use Rattle.kmc_partqueue.proofs.Dealing.{zeros}
use Rattle.kmc_partqueue.proofs.Kept.{ruled, opening_rule}
use Rattle.kmc_partqueue.proofs.WriterSteps as writer
use Rattle.kmc_partqueue.proofs.ReaderSteps as reader

module _ {T : Type 0} (k : QueueShape) where
  -- a reader among these seats holds the slot of the part n of writer w
  pub record IsHeld (vs : List (View T)) (w n : ℕ) : Type 0 where
    pub by : Reading T
    pub seat : ℕ
    pub view : View T
    pub at : get_elem? vs seat ≡ some view
    pub among : Among by view.readers
    pub holds : HoldsSlot by w n

  -- no part has left, or it is held, or its slot is in a later use
  abbrev pub HaveLeft : List ℕ → List (View T) → Type 0
  HaveLeft words vs = (w n : ℕ) → w < k.writers → n < get_or words (head_at k w) 0
      → (2 * (n / k.per_writer) + 2 ≤ get_or words (mark_at k w (n % k.per_writer)) 0) ⊎ IsHeld vs w n

  -- the holder has another seat than id, or it is one of this seat's readers
  held_else : (vs : List (View T)) (id : ℕ) (v v' : View T) → get_elem? vs id ≡ some v → (w n : ℕ) → IsHeld vs w n
      → ((b : Reading T) → Among b v.readers → HoldsSlot b w n → IsHeld (set vs id v') w n) → IsHeld (set vs id v') w n
  held_else vs id v v' at w n h mine = dite (ℕ_discrete h.seat id)
      (λ is. mine h.by (subst (λ (u : View T). Among h.by u.readers) (some-injective h.view v (sym h.at ∙ ap (get_elem? vs) is ∙ at)) h.among) h.holds)
      (λ other. record { by = h.by; seat = h.seat; view = h.view; at = set_else vs id h.seat v' other ∙ h.at; among = h.among; holds = h.holds })

  -- the reader of a seat that stays and holds what it held
  held_here : (vs : List (View T)) (id : ℕ) (b b' : Reading T) → get_elem? vs id ≡ some (one_of_readers b)
      → b'.held ≡ b.held → b'.lane ≡ b.lane → b'.head ≡ b.head → (c : Reading T) → Among c (b ∷ []) → (w n : ℕ)
      → HoldsSlot c w n → IsHeld (set vs id (one_of_readers b')) w n
  held_here vs id b b' at eh el en c p w n h = let o = subst (λ (z : Reading T). HoldsSlot z w n) (sym (only c b p)) h in
      record {
        by = b';
        seat = id;
        view = one_of_readers b';
        at = set_at vs id (one_of_readers b) (one_of_readers b') at;
        among = (0, refl);
        holds = (eh ∙ o.0, el ∙ o.1, en ∙ o.2);
      }

  not_held : {C : Type 0} (b c : Reading T) → b.held ≡ false → Among c (b ∷ []) → (w n : ℕ) → HoldsSlot c w n → C
  not_held b c empty p w n h = let e : false ≡ true = sym empty ∙ ap (λ (z : Reading T). z.held) (only c b p) ∙ h.0 in cc

  -- a step that leaves heads and marks
  seat_moves : (words words' : List ℕ) (vs : List (View T)) (id : ℕ) (v v' : View T) → get_elem? vs id ≡ some v
      → ((w : ℕ) → w < k.writers → get_or words' (head_at k w) 0 ≡ get_or words (head_at k w) 0)
      → ((w i : ℕ) → w < k.writers → i < k.per_writer → get_or words' (mark_at k w i) 0 ≡ get_or words (mark_at k w i) 0)
      → ((b : Reading T) → Among b v.readers → (w n : ℕ) → HoldsSlot b w n → IsHeld (set vs id v') w n)
      → HaveLeft words vs → HaveLeft words' (set vs id v')
  seat_moves words words' vs id v v' at heads marks mine old w n lw ln = ⊎_elim
      (λ (b : 2 * (n / k.per_writer) + 2 ≤ get_or words (mark_at k w (n % k.per_writer)) 0). inl
      (subst (λ (z : ℕ). 2 * (n / k.per_writer) + 2 ≤ z) (sym (marks w (n % k.per_writer) lw (mod-lt n k.within.2))) b))
      (λ (h : IsHeld vs w n). inr (held_else vs id v v' at w n h (λ b p. mine b p w n)))
      (old w n lw (subst (λ (z : ℕ). n < z) (heads w lw) ln))

  module _ (s s' : St T) (r : LanesRule k s) (old : HaveLeft s.words s.views) where
    abbrev c : ℕ
    c = k.per_writer

    -- one slot gets the mark new, which is that of a later use for each part that has left
    remarked : (id : ℕ) (v v' : View T) (w₀ i₀ new : ℕ) → get_elem? s.views id ≡ some v → w₀ < k.writers → i₀ < c
        → ((n : ℕ) → n < get_or s.words (head_at k w₀) 0 → n % c ≡ i₀ → 2 * (n / c) + 2 ≤ new)
        → ((b : Reading T) → Among b v.readers → (w n : ℕ) → ¬ ((w ≡ w₀) × (n % c ≡ i₀)) → HoldsSlot b w n → IsHeld (set s.views id v') w n)
        → HaveLeft (set s.words (mark_at k w₀ i₀) new) (set s.views id v')
    remarked id v v' w₀ i₀ new at known near later mine w n lw ln =
        let i : ℕ = n % c in let words' : List ℕ = set s.words (mark_at k w₀ i₀) new in
        let below : n < get_or s.words (head_at k w) 0 = subst (λ (z : ℕ). n < z) (mark_head k s.words w₀ known new i₀ near w lw) ln in
        let Left : Type 0 = (2 * (n / c) + 2 ≤ get_or words' (mark_at k w i) 0) ⊎ IsHeld (set s.views id v') w n in
        let here : w ≡ w₀ → i ≡ i₀ → Left = λ at_lane at_slot. inl (subst (λ (z : ℕ × ℕ). 2 * (n / c) + 2 ≤ get_or words' (mark_at k z.0 z.1) 0)
        (λ j. (sym at_lane j, sym at_slot j))
        (subst (λ (z : ℕ). 2 * (n / c) + 2 ≤ z) (sym (get_or-set_same s.words (mark_at k w₀ i₀) new 0
        (subst (λ (z : ℕ). mark_at k w₀ i₀ < z) (sym r.wide) (mark_within k w₀ i₀ known near))))
        (later n (subst (λ (z : ℕ). n < get_or s.words (head_at k z) 0) at_lane below) at_slot))) in
        let elsewhere : ¬ ((w ≡ w₀) × (i ≡ i₀)) → Left = λ other. ⊎_elim
        (λ (b : 2 * (n / c) + 2 ≤ get_or s.words (mark_at k w i) 0). inl
        (subst (λ (z : ℕ). 2 * (n / c) + 2 ≤ z) (sym (mark_mark k s.words w₀ known new i₀ near w i (mod-lt n k.within.2) other)) b))
        (λ (h : IsHeld s.views w n). inr (held_else s.views id v v' at w n h (λ b p. mine b p w n other)))
        (old w n lw below) in
        dite (ℕ_discrete w w₀) (λ a. dite (ℕ_discrete i i₀) (λ b. here a b) (λ far. elsewhere (λ both. far both.1))) (λ far. elsewhere (λ both. far both.0))

    -- a step that leaves the words and takes each holder along
    reseated : (vs' : List (View T)) → ((w n : ℕ) → IsHeld s.views w n → IsHeld vs' w n) → HaveLeft s.words vs'
    reseated vs' go w n lw ln =
        ⊎_elim (λ (a : 2 * (n / c) + 2 ≤ get_or s.words (mark_at k w (n % c)) 0). inl a) (λ (h : IsHeld s.views w n). inr (go w n h)) (old w n lw ln)

    split_writer : (id : ℕ) (v : View T) → get_elem? s.views id ≡ some v → (w n : ℕ) → IsHeld s.views w n
        → IsHeld (set s.views id (no_writer v) ++ its_writer v ∷ []) w n
    split_writer id v at w n h = let h' = held_else s.views id v (no_writer v) at w n h
        (λ b p hold. record { by = b; seat = id; view = no_writer v; at = set_at s.views id v (no_writer v) at; among = p; holds = hold }) in
        record {
          by = h'.by;
          seat = h'.seat;
          view = h'.view;
          at = at_longer (set s.views id (no_writer v)) (its_writer v ∷ []) h'.seat h'.view h'.at;
          among = h'.among;
          holds = h'.holds;
        }

    split_reader : (id : ℕ) (v : View T) → get_elem? s.views id ≡ some v → (w n : ℕ) → IsHeld s.views w n
        → IsHeld (set s.views id (no_reader v) ++ its_reader v ∷ []) w n
    split_reader id v at w n h = let vs : List (View T) = set s.views id (no_reader v) in dite (ℕ_discrete h.seat id)
        (λ is. first_or_rest h.by v.readers (subst (λ (u : View T). Among h.by u.readers)
        (some-injective h.view v (sym h.at ∙ ap (get_elem? s.views) is ∙ at)) h.among)
        (λ p. record { by = h.by; seat = length vs; view = its_reader v; at = at_last vs (its_reader v) (length vs) refl; among = p; holds = h.holds })
        (λ p. record {
          by = h.by;
          seat = id;
          view = no_reader v;
          at = at_longer vs (its_reader v ∷ []) id (no_reader v)
              (set_at s.views id v (no_reader v) at);
          among = p;
          holds = h.holds;
        }))
        (λ other. record {
          by = h.by;
          seat = h.seat;
          view = h.view;
          at = at_longer vs (its_reader v ∷ []) h.seat h.view
              (set_else s.views id h.seat (no_reader v) other ∙ h.at);
          among = h.among;
          holds = h.holds;
        })

    join_seat : (id other : ℕ) (v w : View T) → get_elem? s.views id ≡ some v → ¬ (other ≡ id)
        → get_elem? s.views other ≡ some w → (u n : ℕ) → IsHeld s.views u n
        → IsHeld (set (set s.views id (both v w)) other spent) u n
    join_seat id other v w at ne at' u n h = let vs : List (View T) = set s.views id (both v w) in
        let at_both : get_elem? (set vs other spent) id ≡ some (both v w) = set_else vs other id spent (λ i. ne (sym i)) ∙ set_at s.views id v (both v w) at in
        dite (ℕ_discrete h.seat id)
        (λ i. record {
          by = h.by;
          seat = id;
          view = both v w;
          at = at_both;
          among = among_right h.by w.readers v.readers
              (subst (λ (z : View T). Among h.by z.readers) (some-injective h.view v (sym h.at ∙ ap (get_elem? s.views) i ∙ at)) h.among);
          holds = h.holds;
        })
        (λ far. dite (ℕ_discrete h.seat other)
        (λ i. record {
          by = h.by;
          seat = id;
          view = both v w;
          at = at_both;
          among = among_left h.by w.readers v.readers
              (subst (λ (z : View T). Among h.by z.readers) (some-injective h.view w (sym h.at ∙ ap (get_elem? s.views) i ∙ at')) h.among);
          holds = h.holds;
        })
        (λ apart. record {
          by = h.by;
          seat = h.seat;
          view = h.view;
          at = set_else vs other h.seat spent apart ∙ set_else s.views id h.seat
              (both v w) far ∙ h.at;
          among = h.among;
          holds = h.holds;
        }))

    moved : (e : History T) → IsStep k s s' e → HaveLeft s'.words s'.views
    moved e (step.claims_free_slot id a at empty found is) =
        subst (λ (z : St T). HaveLeft z.words z.views) (sym is) (seat_moves s.words s.words s.views id (one_of_writers a) _ at (λ _ _. refl)
        (λ _ _ _ _. refl) (λ b p w n h. nobody b p) old)
    moved e (step.publishes_part id a x at held going small is) =
        let o = writer.own k s r id a at in let l = r.lanes a.number in let ok = r.each_lane a.number o.known in
        let long : length a.sent ≡ length l.sent = ap length o.sent in
        let new : ℕ = 2 * (length a.sent / c) + 1 in
        subst (λ (z : St T). HaveLeft z.words z.views) (sym is)
        (remarked id (one_of_writers a) _ a.number (length a.sent % c) new at o.known (mod-lt (length a.sent) k.within.2)
        (λ n ln same_slot. let h : ℕ = get_or s.words (head_at k a.number) 0 in let len : ℕ = length l.sent in let behind : h ≤ len = ok.behind in
        let m : ℕ = length a.sent in let long' : m ≡ len = long in let lt : n < m = omega arith in
        let x : ℕ = n / c in let y : ℕ = m / c in let up : x < y = later_use c n m lt same_slot in
        (let g : 2 * x + 2 ≤ 2 * y + 1 = omega arith in g))
        (λ b p w n other h. nobody b p))
    moved e (step.closes_lane id a at going is) =
        subst (λ (z : St T). HaveLeft z.words z.views) (sym is) (let o = writer.own k s r id a at in
        seat_moves s.words (set s.words (end_at k a.number) (suc (length a.sent))) s.views id (one_of_writers a) _ at
        (λ w _. end_head k s.words a.number o.known (suc (length a.sent)) w)
        (λ w i _ _. end_mark k s.words a.number o.known (suc (length a.sent)) w i) (λ b p w n h. nobody b p) old)
    moved e (step.reads_head id b w at near empty is) =
        subst (λ (z : St T). HaveLeft z.words z.views) (sym is) (seat_moves s.words s.words s.views id (one_of_readers b) _ at (λ _ _. refl)
        (λ _ _ _ _. refl) (λ d p v n h. not_held b d empty p v n h) old)
    moved e (step.sees_published_part id b at found is) =
        subst (λ (z : St T). HaveLeft z.words z.views) (sym is) (seat_moves s.words s.words s.views id (one_of_readers b) _ at (λ _ _. refl)
        (λ _ _ _ _. refl) (held_here s.views id b (seeing b) at refl refl refl) old)
    moved e (step.claims_part id b x at ready empty at_head has is) =
        let o = reader.own k s r id b at in let h₀ : ℕ = get_or s.words (head_at k b.lane) 0 in
        let words' : List ℕ = set s.words (head_at k b.lane) (b.head + 1) in
        let vs' : List (View T) = set s.views id (one_of_readers (taking b x)) in
        let here : (n : ℕ) → n ≡ b.head → IsHeld vs' b.lane n = λ n e. record {
          by = taking b x;
          seat = id;
          view = one_of_readers (taking b x);
          at = set_at s.views id (one_of_readers b) (one_of_readers (taking b x)) at;
          among = (0, refl);
          holds = (refl, refl, sym e);
        } in
        let stays : (w n : ℕ) → w < k.writers → n < get_or s.words (head_at k w) 0 → (2 * (n / c) + 2 ≤ get_or words' (mark_at k w (n % c)) 0)
        ⊎ IsHeld vs' w n = λ w n lw ln. ⊎_elim
        (λ (a : 2 * (n / c) + 2 ≤ get_or s.words (mark_at k w (n % c)) 0). inl
        (subst (λ (z : ℕ). 2 * (n / c) + 2 ≤ z) (sym (head_mark k s.words b.lane o.lane (b.head + 1) w (n % c))) a))
        (λ (h : IsHeld s.views w n). inr (held_else s.views id (one_of_readers b) (one_of_readers (taking b x)) at w n h
        (λ d p h'. not_held b d empty p w n h')))
        (old w n lw ln) in
        let prod : ℕ = k.writers * k.per_writer in let low : b.lane < k.writers = o.lane in
        let inside : head_at k b.lane < length s.words = subst (λ (z : ℕ). head_at k b.lane < z) (sym r.wide)
        (let g : k.writers + b.lane < 2 * k.writers + prod = omega arith in g) in
        let all : HaveLeft words' vs' = λ w n lw ln. dite (ℕ_discrete w b.lane)
        (λ at_lane. let ln' : n < b.head + 1 = subst (λ (z : ℕ). n < z)
        (ap (λ (z : ℕ). get_or words' (head_at k z) 0) at_lane ∙ get_or-set_same s.words (head_at k b.lane) (b.head + 1) 0 inside) ln in
        dite (ℕ_discrete n b.head) (λ last. subst (λ (z : ℕ). (2 * (n / c) + 2 ≤ get_or words' (mark_at k z (n % c)) 0) ⊎ IsHeld vs' z n)
        (sym at_lane) (inr (here n last)))
        (λ before. stays w n lw (subst (λ (z : ℕ). n < z) (sym at_head ∙ ap (λ (z : ℕ). get_or s.words (head_at k z) 0) (sym at_lane))
        (let g : n < b.head = omega arith in g))))
        (λ other. stays w n lw (subst (λ (z : ℕ). n < z) (head_head k s.words b.lane o.lane (b.head + 1) w other) ln)) in
        subst (λ (z : St T). HaveLeft z.words z.views) (sym is) all
    moved e (step.releases_slot id b at held is) =
        let o = reader.own k s r id b at in let h : ℕ = b.head in let i₀ : ℕ = h % c in
        let near : i₀ < c = mod-lt h k.within.2 in let ok = r.each_lane b.lane o.lane in
        let cell = subst (CellOk c (get_or s.words (head_at k b.lane) 0) (r.lanes b.lane).sent (r.lanes b.lane).held i₀
        (get_or s.words (mark_at k b.lane i₀) 0) (get_elem? s.homes (slot_at k b.lane i₀))) (o.held held).0 (ok.each_cell i₀ near) in
        subst (λ (z : St T). HaveLeft z.words z.views) (sym is)
        (remarked id (one_of_readers b) _ b.lane i₀ (2 * (h / c) + 2) at o.lane near
        (λ n ln same_slot. let g₀ : ℕ = get_or s.words (head_at k b.lane) 0 in let len : ℕ = length (r.lanes b.lane).sent in
        let behind : g₀ ≤ len = ok.behind in let waits : len ≤ h + c = cell.waits in let lt : n < h + c = omega arith in
        let x : ℕ = n / c in let y : ℕ = h / c in let z : ℕ = (h + c) / c in
        let next : z ≡ y + 1 = next_use c k.within.2 h in
        let up : x < z = later_use c n (h + c) lt (same_slot ∙ sym (next_slot c k.within.2 h)) in
        (let g : 2 * x + 2 ≤ 2 * y + 2 = omega arith in g))
        (λ d p w n other hold. let mine = subst (λ (z : Reading T). HoldsSlot z w n) (sym (only d b p)) hold in absurd
        (other (sym mine.1, ap (λ (z : ℕ). z % c) (sym mine.2)))))
    moved e (step.reads_end id b at found more is) =
        subst (λ (z : St T). HaveLeft z.words z.views) (sym is) (seat_moves s.words s.words s.views id (one_of_readers b) _ at (λ _ _. refl)
        (λ _ _ _ _. refl) (held_here s.views id b (ending b) at refl refl refl) old)
    moved e (step.reads_last_end id b totals at found before are is) =
        subst (λ (z : St T). HaveLeft z.words z.views) (sym is) (seat_moves s.words s.words s.views id (one_of_readers b) _ at (λ _ _. refl)
        (λ _ _ _ _. refl) (held_here s.views id b (ending b) at refl refl refl) old)
    moved e (step.finds_nothing is) = subst (λ (z : St T). HaveLeft z.words z.views) (sym is) old
    moved e (step.splits_writer id v at is) =
        subst (λ (z : St T). HaveLeft z.words z.views) (sym is) (reseated (set s.views id (no_writer v) ++ its_writer v ∷ []) (split_writer id v at))
    moved e (step.splits_reader id v at is) =
        subst (λ (z : St T). HaveLeft z.words z.views) (sym is) (reseated (set s.views id (no_reader v) ++ its_reader v ∷ []) (split_reader id v at))
    moved e (step.joins_seat id other v w at ne at' is) =
        subst (λ (z : St T). HaveLeft z.words z.views) (sym is) (reseated (set (set s.views id (both v w)) other spent) (join_seat id other v w at ne at'))

  all_moved : (s s' : St T) (e : History T) → AreSteps k s s' e → LanesRule k s → HaveLeft s.words s.views → HaveLeft s'.words s'.views
  all_moved s s' e (step.still is none_yet) r old = subst (λ (z : St T). HaveLeft z.words z.views) is old
  all_moved s s' e (step.then t d f steps move is) r old = moved t s' (ruled k s t d steps r) (all_moved s t d steps r old) f move

  -- wherever steps lead
  pub reached_left : (s : St T) → IsReached k s → HaveLeft s.words s.views
  reached_left s r =
      all_moved (opened k) s r.entries r.steps (opening_rule k) (λ w n lw ln. let z = zeros (2 * k.writers + k.writers * k.per_writer)
      (head_at k w) in absurd (let g : n < 0 = subst (λ (x : ℕ). n < x) z ln in omega arith))
