-- The steps of a writer keep the rule.
use Rattle.std.proofs.Common.{◌≡◌, ℕ, suc, ◌+◌, ◌*◌, ◌/◌, ◌%◌, ◌<◌, ◌≤◌, ◌≢◌, Bool, true, false, List, [], ◌∷◌, ◌++◌, length, get_or, set, refl, sym, ap, ap₂, ◌∙◌, subst, le_refl, mod-lt, arith, length-set, length-append, get_or-set_same}
use mathlib.Core.Option.{none, some}
use mathlib.Core.Option as maybe
use lib.ListN.{get_elem?}
use Rattle.std.specs.Prelude.{Option, Some, None}
use Rattle.atomic_table.proofs.Lists.{set_here, at_longer}
use Rattle.kmc_partqueue.specs.declared.views.Writing.{Writing}
use Rattle.kmc_partqueue.specs.declared.views.View.{View}
use Rattle.kmc_partcore.specs.declared.shape.QueueShape.{QueueShape}
use Rattle.kmc_partqueue.specs.Counts.{total_of, same, once_below}
use Rattle.kmc_partqueue.specs.Lane.{free, writing, full, reading, Cell, Lane, LaneOk}
use Rattle.kmc_partqueue.specs.Rule.{head_at, end_at, slot_at, mark_at, entries, writers_of, WriterOk, ReaderOk, ViewOk, LanesRule}
use Rattle.kmc_partqueue.specs.Dealing.{one_of_writers}
use Rattle.kmc_partqueue.specs.Plays.{next_slot_of, holding, sending, completed}
use Rattle.kmc_partqueue.specs.Lemmas.Sums.{one_of_itself, put, at_put, put_here, put_else, total_set, each_map, each_absent}
use Rattle.kmc_partqueue.proofs.OneLane.{Longer, lane_of, free_found, late, lane_holds, lane_stays, lane_puts, lane_ends}
use Rattle.kmc_partqueue.proofs.Frame.{St, heads_of, alone_with, Grows, Hands, reader_stays, hands_put, rule_moves}
use Rattle.kmc_partqueue.proofs.Places.{LaneSame, slot_within, mark_within, mark_head, mark_end, mark_mark, end_head, end_end, end_mark, home_else}

module _ {T : Type 0} (k : QueueShape) where
  pub grows_put : (lanes : ℕ → Lane T) (heads heads' : ℕ → ℕ) (w₀ : ℕ) (l' : Lane T)
      → ((w : ℕ) → w < k.writers → heads w ≤ heads' w) → ((w : ℕ) → w < k.writers → w ≢ w₀ → heads' w ≡ heads w)
      → length (lanes w₀).sent ≤ length l'.sent → Longer (lanes w₀).sent l'.sent
      → ((lanes w₀).done ≡ true → length (lanes w₀).sent ≡ heads w₀ → (l'.done ≡ true) × (length l'.sent ≡ length (lanes w₀).sent) × (heads' w₀ ≡ heads w₀))
      → Grows k lanes (put lanes w₀ l') heads heads'
  grows_put lanes heads heads' w₀ l' hs else long more last = record {
    head = hs;
    long = λ w. at_put lanes w₀ l' (λ m l. m ≡ w → length (lanes w).sent ≤ length l.sent) w
        (λ e. subst (λ (z : ℕ). length (lanes z).sent ≤ length l'.sent) e long) (λ _ _. le_refl (length (lanes w).sent)) refl;
    more = λ w. at_put lanes w₀ l' (λ m l. m ≡ w → Longer (lanes w).sent l.sent) w (λ e. subst (λ (z : ℕ). Longer (lanes z).sent l'.sent) e more)
        (λ _ _ p x e. e) refl;
    last =
        λ w near. at_put lanes w₀ l' (λ m l. m ≡ w → (lanes w).done ≡ true → length (lanes w).sent ≡ heads w → (l.done ≡ true)
        × (length l.sent ≡ length (lanes w).sent) × (heads' w ≡ heads w)) w
        (λ e. subst (λ (z : ℕ). (lanes z).done ≡ true → length (lanes z).sent ≡ heads z → (l'.done ≡ true) × (length l'.sent ≡ length (lanes z).sent)
        × (heads' z ≡ heads z)) e last)
        (λ n _ d _. (d, refl, else w near n)) refl;
  }

  module _ (s : St T) (r : LanesRule k s) (id : ℕ) (a : Writing T) (at : get_elem? s.views id ≡ some (one_of_writers a)) where
    pub own : WriterOk k r.lanes (heads_of k s.words) a
    own = (r.each_seat id (one_of_writers a) at).0.0

    -- the writer has one seat
    pub alone : (j : ℕ) (u : View T) → j ≢ id → get_elem? s.views j ≡ some u → writers_of a.number u ≡ 0
    alone = alone_with (writers_of a.number) s id (one_of_writers a) at (one_of_itself a.number) (r.one_writer a.number own.known)

    writer_stays : (l' : Lane T) (heads' : ℕ → ℕ) (b : Writing T) → b.number ≢ a.number
        → WriterOk k r.lanes (heads_of k s.words) b → WriterOk k (put r.lanes a.number l') heads' b
    writer_stays l' heads' b n p =
        let e = sym (put_else r.lanes a.number l' b.number n) in
        record {
          known = p.known;
          per_writer = p.per_writer;
          sent = p.sent ∙ ap (λ (l : Lane T). l.sent) e;
          held = p.held ∙ ap
              (λ (l : Lane T). l.held) e;
          done = p.done ∙ ap (λ (l : Lane T). l.done) e;
        }

    pub others_stay : (l' : Lane T) (heads' : ℕ → ℕ)
        → Grows k r.lanes (put r.lanes a.number l') (heads_of k s.words) heads'
        → ((q : ℕ) → Hands k r.lanes (put r.lanes a.number l') q)
        → (j : ℕ) (u : View T) → j ≢ id → get_elem? s.views j ≡ some u → ViewOk k (put r.lanes a.number l') heads' u
    others_stay l' heads' g hands j u n e =
        let old = r.each_seat j u e in let ls : ℕ → Lane T = put r.lanes a.number l' in let hs = heads_of k s.words in (
          each_absent (WriterOk k r.lanes hs) (WriterOk k ls heads') (λ (b : Writing T). b.number) a.number (writer_stays l' heads') u.writers
              (alone j u n e) old.0,
          each_map (ReaderOk k r.lanes hs) (ReaderOk k ls heads') (λ b p. reader_stays k r.lanes ls hs heads' g b (λ _. hands b.number) p) u.readers old.1,
        )

    -- a step of the writer that leaves its number, and the heads of all lanes
    pub writer_moves : (a' : Writing T) (l' : Lane T) (ws' : List ℕ) (homes' : List (maybe.Option (Option T)))
        → a'.number ≡ a.number → a'.per_writer ≡ a.per_writer → a'.sent ≡ l'.sent → a'.held ≡ l'.held
        → a'.done ≡ l'.done
        → length ws' ≡ length s.words → length homes' ≡ length s.homes
        → ((w : ℕ) → w < k.writers → get_or ws' (head_at k w) 0 ≡ get_or s.words (head_at k w) 0)
        → ((w : ℕ) → w < k.writers → w ≢ a.number → LaneSame k s.words ws' s.homes homes' w)
        → LaneOk k.per_writer l' (get_or ws' (head_at k a.number) 0) (get_or ws' (end_at k a.number) 0) (λ i. get_or ws' (mark_at k a.number i) 0)
        (λ i. get_elem? homes' (slot_at k a.number i))
        → length (r.lanes a.number).sent ≤ length l'.sent → Longer (r.lanes a.number).sent l'.sent
        → ((r.lanes a.number).done ≡ true → (l'.done ≡ true) × (length l'.sent ≡ length (r.lanes a.number).sent))
        → ((q : ℕ) → Hands k r.lanes (put r.lanes a.number l') q)
        → LanesRule k record { words = ws'; homes = homes'; views = set s.views id (one_of_writers a') }
    writer_moves a' l' ws' homes' en er es eh ed lw lh hs other ok long more last hands =
        let w₀ : ℕ = a.number in let v : View T = one_of_writers a in let v' : View T = one_of_writers a' in
        let ls : ℕ → Lane T = put r.lanes w₀ l' in let h' = heads_of k ws' in
        let g = grows_put r.lanes (heads_of k s.words) h' w₀ l' (λ w near. let e = hs w near in omega arith) (λ w near _. hs w near) long more
        (λ d _. let x = last d in (x.0, x.1, hs w₀ own.known)) in
        let here : l' ≡ ls a'.number = sym (put_here r.lanes w₀ l') ∙ ap ls (sym en) in
        rule_moves k s r id v v' w₀ l' ws' homes' at lw lh ok other (
          (
            record {
              known = subst (λ (z : ℕ). z < k.writers) (sym en) own.known;
              per_writer = er ∙ own.per_writer;
              sent = es ∙ ap
                  (λ (l : Lane T). l.sent) here;
              held = eh ∙ ap (λ (l : Lane T). l.held) here;
              done = ed ∙ ap (λ (l : Lane T). l.done) here;
            },
            tt,
          ),
          tt,
        )
        (others_stay l' h' g hands) (λ w. ap (λ (z : ℕ). same z w + 0) en) (λ w. refl)
        (λ w n near. let t = total_set (entries w n) s.views id v v' at in let o = r.taken_once w n near in let x : ℕ = total_of (entries w n)
        (set s.views id v') in let y : ℕ = total_of (entries w n) s.views in let t' : x + 0 ≡ y + 0 = t in
        let e : x ≡ y = omega arith in e ∙ o ∙ ap (once_below n) (sym (hs w near)))

    abbrev pub l₀ : Lane T
    l₀ = r.lanes a.number

    pub ok₀ : LaneOk k.per_writer l₀ (get_or s.words (head_at k a.number) 0) (get_or s.words (end_at k a.number) 0)
        (λ i. get_or s.words (mark_at k a.number i) 0) (λ i. get_elem? s.homes (slot_at k a.number i))
    ok₀ = r.each_lane a.number own.known

    pub place_is : length a.sent % k.per_writer ≡ length l₀.sent % k.per_writer
    place_is = ap (λ (z : List T). length z % k.per_writer) own.sent

    pub slot_is : next_slot_of a ≡ slot_at k a.number (length l₀.sent % k.per_writer)
    slot_is = ap₂ (λ (c : ℕ) (z : List T). a.number * c + length z % c) own.per_writer own.sent

    pub in_room : length l₀.sent % k.per_writer < k.per_writer
    in_room = mod-lt (length l₀.sent) r.some_room

  -- a free slot goes into the hand
  pub holds_kept : (s : St T) (r : LanesRule k s) (id : ℕ) (a : Writing T) (at : get_elem? s.views id ≡ some (one_of_writers a))
      → a.held ≡ false
      → get_or s.words (mark_at k a.number (length a.sent % k.per_writer)) 0 ≡ 2 * (length a.sent / k.per_writer)
      → LanesRule k record { words = s.words; homes = set s.homes (next_slot_of a) none; views = set s.views id (one_of_writers (holding a)) }
  holds_kept s r id a at empty hit =
      let l : Lane T = l₀ s r id a at in let C : ℕ = k.per_writer in let p = own s r id a at in
      let i₀ : ℕ = length l.sent % C in
      let found : get_or s.words (mark_at k a.number i₀) 0 ≡ 2 * (length l.sent / C) = subst
      (λ (z : List T). get_or s.words (mark_at k a.number (length z % C)) 0 ≡ 2 * (length z / C)) p.sent hit in
      let ok = ok₀ s r id a at in let h₀ : ℕ = get_or s.words (head_at k a.number) 0 in
      let e₀ : ℕ = get_or s.words (end_at k a.number) 0 in
      let ms = λ (j : ℕ). get_or s.words (mark_at k a.number j) 0 in
      let os = λ (j : ℕ). get_elem? s.homes (slot_at k a.number j) in
      let fr = free_found C r.some_room l h₀ e₀ ms os ok (sym p.held ∙ empty) found in
      let eslot = slot_is s r id a at in let near = in_room s r id a at in
      let homes' : List (maybe.Option (Option T)) = set s.homes (slot_at k a.number i₀) none in
      let go : LanesRule k record { words = s.words; homes = homes'; views = set s.views id (one_of_writers (holding a)) } = writer_moves s r id a at
      (holding a) (lane_of l.sent true l.done (put l.cells i₀ (length l.sent, writing))) s.words homes' refl refl p.sent refl p.done
      refl (length-set s.homes (slot_at k a.number i₀) none) (λ w _. refl)
      (λ w _ other. (refl, refl, (λ j _. refl), (λ j lj. home_else k s.homes a.number i₀ p.known near none w j lj (λ b. other b.0))))
      (lane_holds C r.some_room l h₀ e₀ ms os ok (λ (j : ℕ). get_elem? homes' (slot_at k a.number j)) fr.0 found
      (set_here s.homes (slot_at k a.number i₀) none (subst (λ (z : ℕ). slot_at k a.number i₀ < z) (sym r.slots)
      (slot_within k a.number i₀ p.known near))) (λ j lj other. home_else k s.homes a.number i₀ p.known near none a.number j lj (λ b. other b.1)))
      (le_refl (length l.sent)) (λ q x e. e) (λ d. (d, refl)) (λ q. hands_put k r.lanes a.number i₀ l.sent true l.done (length l.sent, writing) q
      (λ e. let x : free ≡ reading q = ap (λ (z : Cell). z.1) (sym fr.0) ∙ e in cc)) in
      subst (λ (z : ℕ). LanesRule k record { words = s.words; homes = set s.homes z none; views = set s.views id (one_of_writers (holding a)) }) (sym eslot) go

  -- the part is put
  pub sends_kept : (s : St T) (r : LanesRule k s) (id : ℕ) (a : Writing T) (x : T) (at : get_elem? s.views id ≡ some (one_of_writers a))
      → a.held ≡ true → a.done ≡ false → length a.sent < 4294967295
      → LanesRule k record {
        words = set s.words (mark_at k a.number (length a.sent % k.per_writer)) (2 * (length a.sent / k.per_writer) + 1);
        homes = set s.homes (next_slot_of a) (some (Some x));
        views = set s.views id (one_of_writers (sending a x));
      }
  sends_kept s r id a x at held going small =
      let i : ℕ = mark_at k a.number (length a.sent % k.per_writer) in
      let new : ℕ = 2 * (length a.sent / k.per_writer) + 1 in
      let is : i ≡ mark_at k a.number (length a.sent % k.per_writer) = refl in
      let marks : new ≡ 2 * (length a.sent / k.per_writer) + 1 = refl in
      let l : Lane T = l₀ s r id a at in let C : ℕ = k.per_writer in let p = own s r id a at in
      let i₀ : ℕ = length l.sent % C in let ok = ok₀ s r id a at in let near = in_room s r id a at in
      let index : i ≡ mark_at k a.number i₀ = is ∙ ap (mark_at k a.number) (place_is s r id a at) in
      let eslot = slot_is s r id a at in let at_mark : ℕ = mark_at k a.number i₀ in
      let at_slot : ℕ = slot_at k a.number i₀ in
      let ws' : List ℕ = set s.words at_mark new in let homes' : List (maybe.Option (Option T)) = set s.homes at_slot (some (Some x)) in
      let h₀ : ℕ = get_or s.words (head_at k a.number) 0 in let e₀ : ℕ = get_or s.words (end_at k a.number) 0 in
      let ms = λ (j : ℕ). get_or s.words (mark_at k a.number j) 0 in
      let os = λ (j : ℕ). get_elem? s.homes (slot_at k a.number j) in
      let long : length l.sent ≡ length a.sent = ap length (sym p.sent) in
      let held' : l.held ≡ true = sym p.held ∙ held in let going' : l.done ≡ false = sym p.done ∙ going in
      let here = lane_puts C r.some_room l h₀ e₀ ms os ok x (λ (j : ℕ). get_or ws' (mark_at k a.number j) 0)
      (λ (j : ℕ). get_elem? homes' (slot_at k a.number j)) held' going' (omega arith)
      (get_or-set_same s.words at_mark new 0 (subst (λ (z : ℕ). at_mark < z) (sym r.wide) (mark_within k a.number i₀ p.known near)) ∙ marks ∙ ap
      (λ (z : ℕ). 2 * (z / C) + 1) (sym long))
      (set_here s.homes at_slot (some (Some x)) (subst (λ (z : ℕ). at_slot < z) (sym r.slots) (slot_within k a.number i₀ p.known near)))
      (λ j lj other. mark_mark k s.words a.number p.known new i₀ near a.number j lj (λ b. other b.1))
      (λ j lj other. home_else k s.homes a.number i₀ p.known near (some (Some x)) a.number j lj (λ b. other b.1)) in
      let l' : Lane T = lane_of (l.sent ++ x ∷ []) false l.done (put l.cells i₀ (length l.sent, full)) in
      let n' : ℕ = length (l.sent ++ x ∷ []) in let more : n' ≡ length l.sent + 1 = length-append l.sent (x ∷ []) in
      let hs : (w : ℕ) → w < k.writers → get_or ws' (head_at k w) 0 ≡ get_or s.words (head_at k w) 0 = mark_head k s.words a.number p.known new i₀ near in
      let es : (w : ℕ) → w < k.writers → get_or ws' (end_at k w) 0 ≡ get_or s.words (end_at k w) 0 = mark_end k s.words a.number p.known new i₀ near in
      let go : LanesRule k record { words = ws'; homes = homes'; views = set s.views id (one_of_writers (sending a x)) } = writer_moves s r id a at
      (sending a x) l' ws' homes' refl refl (ap (λ (z : List T). z ++ x ∷ []) p.sent) refl p.done
      (length-set s.words at_mark new) (length-set s.homes at_slot (some (Some x))) hs
      (λ w lw other. (
        hs w lw,
        es w lw,
        (λ j lj. mark_mark k s.words a.number p.known new i₀ near w j lj (λ b. other b.0)),
        (λ j lj. home_else k s.homes a.number i₀ p.known near (some (Some x)) w j lj (λ b. other b.0)),
      ))
      (subst (λ (z : ℕ × ℕ). LaneOk C l' z.0 z.1 (λ (j : ℕ). get_or ws' (mark_at k a.number j) 0)
      (λ (j : ℕ). get_elem? homes' (slot_at k a.number j))) (λ j. (sym (hs a.number p.known) j, sym (es a.number p.known) j)) here)
      (omega arith) (at_longer l.sent (x ∷ [])) (λ d. absurd (clash going' d))
      (λ q. hands_put k r.lanes a.number i₀ (l.sent ++ x ∷ []) false l.done (length l.sent, full) q
      (λ e. let y : writing ≡ reading q = ap (λ (z : Cell). z.1) (sym (ok.writes held')) ∙ e in cc)) in
      subst (λ (z : ℕ × ℕ). LanesRule k record {
        words = set s.words z.0 new;
        homes = set s.homes z.1 (some (Some x));
        views = set s.views id
            (one_of_writers (sending a x));
      }) (λ j. (sym index j, sym eslot j)) go
    where
      clash : {b : Bool} → b ≡ false → b ≡ true → ⊥
      clash {b} x y = let z : false ≡ true = sym x ∙ y in cc

  -- the end is stored
  pub ends_kept : (s : St T) (r : LanesRule k s) (id : ℕ) (a : Writing T) (at : get_elem? s.views id ≡ some (one_of_writers a))
      → LanesRule k record {
        words = set s.words (end_at k a.number) (suc (length a.sent));
        homes = s.homes;
        views = set s.views id
            (one_of_writers (completed a));
      }
  ends_kept s r id a at = let new : ℕ = suc (length a.sent) in let is : new ≡ suc (length a.sent) = refl in
      let l : Lane T = l₀ s r id a at in let p = own s r id a at in let ok = ok₀ s r id a at in let C : ℕ = k.per_writer in
      let at_end : ℕ = end_at k a.number in let ws' : List ℕ = set s.words at_end new in let a₀ : ℕ = a.number in
      let near : a₀ < k.writers = p.known in
      let h₀ : ℕ = get_or s.words (head_at k a.number) 0 in let e₀ : ℕ = get_or s.words (end_at k a.number) 0 in
      let ms = λ (j : ℕ). get_or s.words (mark_at k a.number j) 0 in
      let os = λ (j : ℕ). get_elem? s.homes (slot_at k a.number j) in
      let prod : ℕ = k.writers * k.per_writer in
      let inside : at_end < 2 * k.writers + prod = (let g : a₀ < 2 * k.writers + prod = omega arith in g) in
      let here₀ = get_or-set_same s.words at_end new 0 (subst (λ (z : ℕ). at_end < z) (sym r.wide) inside) in
      let here = lane_ends C r.some_room l h₀ e₀ ms os ok (get_or ws' at_end 0) (here₀ ∙ is ∙ ap (λ (z : List T). suc (length z)) p.sent) in
      let hs : (w : ℕ) → w < k.writers → get_or ws' (head_at k w) 0 ≡ get_or s.words (head_at k w) 0 = (λ w _. end_head k s.words a.number p.known new w) in
      let l' : Lane T = lane_of l.sent l.held true l.cells in
      let go : LanesRule k record { words = ws'; homes = s.homes; views = set s.views id (one_of_writers (completed a)) } = writer_moves s r id a at
      (completed a) l' ws' s.homes refl refl p.sent p.held refl (length-set s.words at_end new) refl hs
      (λ w lw other. (hs w lw, end_end k s.words a.number p.known new w other, (λ j lj. end_mark k s.words a.number p.known new w j), (λ j lj. refl)))
      (lane_stays C r.some_room l' h₀ (get_or ws' at_end 0) ms os here (get_or ws' (head_at k a.number) 0) (get_or ws' at_end 0)
      (λ (j : ℕ). get_or ws' (mark_at k a.number j) 0) os (hs a.number p.known) refl (λ j lj. end_mark k s.words a.number p.known new a.number j)
      (λ j lj. refl))
      (le_refl (length l.sent)) (λ q x e. e) (λ _. (refl, refl))
      (λ q w m e. at_put r.lanes a.number l' (λ z x. z ≡ w → x.cells (m % k.per_writer) ≡ (m, reading q)) w
      (λ one. ap (λ (z : ℕ). (r.lanes z).cells (m % k.per_writer)) one ∙ e) (λ _ _. e) refl) in go

  -- where the next slot is not free, the writer has put as many parts as the lane has slots
  pub put_many : (s : St T) (r : LanesRule k s) (id : ℕ) (a : Writing T) (at : get_elem? s.views id ≡ some (one_of_writers a))
      → get_or s.words (mark_at k a.number (length a.sent % k.per_writer)) 0 ≢ 2 * (length a.sent / k.per_writer)
      → k.per_writer ≤ length a.sent
  put_many s r id a at miss = let l : Lane T = l₀ s r id a at in let C : ℕ = k.per_writer in let p = own s r id a at in
      let h₀ : ℕ = get_or s.words (head_at k a.number) 0 in let e₀ : ℕ = get_or s.words (end_at k a.number) 0 in
      let ms = λ (j : ℕ). get_or s.words (mark_at k a.number j) 0 in
      let os = λ (j : ℕ). get_elem? s.homes (slot_at k a.number j) in
      let more : C ≤ length l.sent = late C r.some_room l h₀ e₀ ms os (ok₀ s r id a at)
      (λ e. miss (subst (λ (z : List T). get_or s.words (mark_at k a.number (length z % C)) 0 ≡ 2 * (length z / C)) (sym p.sent) e)) in
      subst (λ (z : List T). C ≤ length z) (sym p.sent) more

  -- a slot whose mark says so is at home and empty
  pub slot_free : (s : St T) (r : LanesRule k s) (id : ℕ) (a : Writing T) (at : get_elem? s.views id ≡ some (one_of_writers a))
      → a.held ≡ false
      → get_or s.words (mark_at k a.number (length a.sent % k.per_writer)) 0 ≡ 2 * (length a.sent / k.per_writer)
      → get_elem? s.homes (next_slot_of a) ≡ some (some None)
  slot_free s r id a at empty hit = let l : Lane T = l₀ s r id a at in let C : ℕ = k.per_writer in let p = own s r id a at in
      let found : get_or s.words (mark_at k a.number (length l.sent % C)) 0 ≡ 2 * (length l.sent / C) = subst
      (λ (z : List T). get_or s.words (mark_at k a.number (length z % C)) 0 ≡ 2 * (length z / C)) p.sent hit in
      let h₀ : ℕ = get_or s.words (head_at k a.number) 0 in let e₀ : ℕ = get_or s.words (end_at k a.number) 0 in
      let ms = λ (j : ℕ). get_or s.words (mark_at k a.number j) 0 in
      let os = λ (j : ℕ). get_elem? s.homes (slot_at k a.number j) in
      ap (get_elem? s.homes) (slot_is s r id a at) ∙ (free_found C r.some_room l h₀ e₀ ms os (ok₀ s r id a at) (sym p.held ∙ empty) found).1
