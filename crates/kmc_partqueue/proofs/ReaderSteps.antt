-- The steps of a reader keep the rule.
use Rattle.std.proofs.Common.{◌≡◌, ℕ, suc, ◌+◌, ◌*◌, ◌/◌, ◌%◌, ◌<◌, ◌≤◌, ◌≢◌, Bool, true, false, List, [], ◌∷◌, ◌++◌, length, get_or, set, refl, sym, ap, ◌∙◌, subst, le_refl, mod-lt, arith, length-set, get_or-set_other, get_or-set_same}
use mathlib.Core.Option.{none, some}
use mathlib.Core.Option as maybe
use mathlib.Core.Logic.{dite}
use native.Mathlib.Decide.{ℕ_discrete}
use lib.ListN.{get_elem?}
use Rattle.std.specs.Prelude.{Option, Some, None}
use Rattle.atomic_table.proofs.Lists.{set_here}
use Rattle.std.proofs.lemmas.Bool.{both_ways}
use Rattle.kmc_partqueue.specs.declared.views.Writing.{Writing}
use Rattle.kmc_partqueue.specs.declared.views.Reading.{Reading}
use Rattle.kmc_partcore.specs.declared.event.Received.{Received}
use Rattle.kmc_partqueue.specs.declared.views.View.{View}
use Rattle.kmc_partcore.specs.declared.shape.QueueShape.{QueueShape}
use Rattle.kmc_partqueue.specs.Counts.{Each, total_of, same, once_below}
use Rattle.kmc_partqueue.specs.Lane.{free, full, reading, Cell, Lane, LaneOk, end_word}
use Rattle.kmc_partqueue.specs.Rule.{head_at, end_at, slot_at, mark_at, is_entry, got_once, entries, readers_of, Rises, GotOk, EndOk, WriterOk, ReaderOk, LanesRule}
use Rattle.kmc_partqueue.specs.Dealing.{one_of_readers}
use Rattle.kmc_partqueue.specs.Plays.{seen_slot_of, looking, seeing, taking, freeing, ending}
use Rattle.kmc_partqueue.specs.Lemmas.Sums.{put, at_put, put_here, one_of_itself, same_refl, same_ne, total_set, total_append, each_map, each_absent, each_append, once_next}
use Rattle.kmc_partqueue.proofs.OneLane.{holder, lane_of, ready_found, full_found, lane_stays, lane_takes, lane_frees}
use Rattle.kmc_partqueue.proofs.Frame.{St, heads_of, Grows, Hands, alone_with, reader_stays, hands_put, rule_moves, reviewed}
use Rattle.kmc_partqueue.proofs.Places.{slot_within, mark_within, mark_head, mark_end, mark_mark, head_head, head_end, head_mark, home_else}
use Rattle.kmc_partqueue.proofs.WriterSteps.{grows_put}

at_end : (d : Bool) (n h : ℕ) → end_word d n ≡ suc h → (d ≡ true) × (n ≡ h)
at_end true n h e = (refl, (let e' : suc n ≡ suc h = e in let g : n ≡ h = omega arith in g))
at_end false n h e = let e' : 0 ≡ suc h = e in absurd (omega arith)

module _ {T : Type 0} (k : QueueShape) where
  rises_more : (es : List (Received T)) (x : Received T) → Rises es
      → Each (λ (f : Received T). f.writer ≡ x.writer → f.number < x.number) es → Rises (es ++ x ∷ [])
  rises_more [] x p q = (tt, tt)
  rises_more (e ∷ es) x p q =
      (each_append (λ (f : Received T). f.writer ≡ e.writer → e.number < f.number) es (x ∷ []) p.0 ((λ is. q.0 (sym is)), tt), rises_more es x p.1 q.1)

  module _ (s : St T) (r : LanesRule k s) (id : ℕ) (b : Reading T) (at : get_elem? s.views id ≡ some (one_of_readers b)) where
    pub own : ReaderOk k r.lanes (heads_of k s.words) b
    own = (r.each_seat id (one_of_readers b) at).1.0

    -- no other seat has the reader
    pub alone : (j : ℕ) (u : View T) → j ≢ id → get_elem? s.views j ≡ some u → readers_of b.number u ≡ 0
    alone = alone_with (readers_of b.number) s id (one_of_readers b) at (one_of_itself b.number) (r.one_reader b.number own.known)

  -- a lane whose list, hand and end stay
  abbrev pub recelled : Lane T → ℕ → Cell → Lane T
  recelled l i cell = lane_of l.sent l.held l.done (put l.cells i cell)

  writer_same : (lanes : ℕ → Lane T) (heads heads' : ℕ → ℕ) (w₀ i : ℕ) (cell : Cell) (a : Writing T)
      → WriterOk k lanes heads a → WriterOk k (put lanes w₀ (recelled (lanes w₀) i cell)) heads' a
  writer_same lanes heads heads' w₀ i cell a p = let l' = recelled (lanes w₀) i cell in record {
    known = p.known;
    per_writer = p.per_writer;
    sent = at_put lanes w₀ l' (λ m l. m ≡ a.number → a.sent ≡ l.sent) a.number (λ e. p.sent ∙ ap (λ (z : ℕ). (lanes z).sent) (sym e)) (λ _ _. p.sent) refl;
    held = at_put lanes w₀ l' (λ m l. m ≡ a.number → a.held ≡ l.held) a.number (λ e. p.held ∙ ap (λ (z : ℕ). (lanes z).held) (sym e)) (λ _ _. p.held) refl;
    done = at_put lanes w₀ l' (λ m l. m ≡ a.number → a.done ≡ l.done) a.number (λ e. p.done ∙ ap (λ (z : ℕ). (lanes z).done) (sym e)) (λ _ _. p.done) refl;
  }

  -- the part at the head is taken
  pub takes_kept : (s : St T) (r : LanesRule k s) (id : ℕ) (b : Reading T) (at : get_elem? s.views id ≡ some (one_of_readers b))
      → b.ready ≡ true → get_or s.words (head_at k b.lane) 0 ≡ b.head
      → (x : T) × (get_elem? (r.lanes b.lane).sent b.head ≡ some x) × (get_elem? s.homes (seen_slot_of b) ≡ some (some (Some x)))
      × LanesRule k record {
        words = set s.words (head_at k b.lane) (b.head + 1);
        homes = set s.homes (seen_slot_of b) none;
        views = set s.views id (one_of_readers (taking b x));
      }
  takes_kept s r id b at set_ready at_head =
      let p = own s r id b at in let w₀ : ℕ = b.lane in let l : Lane T = r.lanes w₀ in let C : ℕ = k.per_writer in
      let ok = r.each_lane w₀ p.lane in let h : ℕ = b.head in
      let lt : h < length l.sent = p.ready set_ready in let new : ℕ = h + 1 in let next : new ≡ h + 1 = refl in
      let i₀ : ℕ = h % C in let h₀ : ℕ = get_or s.words (head_at k w₀) 0 in
      let e₀ : ℕ = get_or s.words (end_at k w₀) 0 in let ms = λ (j : ℕ). get_or s.words (mark_at k w₀ j) 0 in
      let os = λ (j : ℕ). get_elem? s.homes (slot_at k w₀ j) in
      let fl = full_found C r.some_room l h₀ e₀ ms os ok h (omega arith) lt in let x : T = fl.2.0 in
      let near : i₀ < C = mod-lt h r.some_room in
      let eslot : seen_slot_of b ≡ slot_at k w₀ i₀ = ap (λ (z : ℕ). w₀ * z + h % z) p.per_writer in
      let at_slot : ℕ = slot_at k w₀ i₀ in let cell' : Cell = (h, reading b.number) in
      let l' : Lane T = recelled l i₀ cell' in let ls : ℕ → Lane T = put r.lanes w₀ l' in
      let ws' : List ℕ = set s.words (head_at k w₀) new in
      let homes' : List (maybe.Option (Option T)) = set s.homes at_slot none in let hs = heads_of k s.words in
      let hs' = heads_of k ws' in
      let prod : ℕ = k.writers * k.per_writer in let low : w₀ < k.writers = p.lane in
      let inside : head_at k w₀ < length s.words = subst (λ (z : ℕ). head_at k w₀ < z) (sym r.wide)
      (let g : k.writers + w₀ < 2 * k.writers + prod = omega arith in g) in
      let here_head : get_or ws' (head_at k w₀) 0 ≡ h + 1 = get_or-set_same s.words (head_at k w₀) new 0 inside ∙ next in
      let here = lane_takes C r.some_room l h₀ e₀ ms os ok h b.number (get_or ws' (head_at k w₀) 0)
      (λ (j : ℕ). get_elem? homes' (slot_at k w₀ j)) at_head lt here_head
      (set_here s.homes at_slot none (subst (λ (z : ℕ). at_slot < z) (sym r.slots) (slot_within k w₀ i₀ p.lane near)))
      (λ j lj other. home_else k s.homes w₀ i₀ p.lane near none w₀ j lj (λ e. other e.1)) in
      let g : Grows k r.lanes ls hs hs' = grows_put k r.lanes hs hs' w₀ l'
      (λ w lw. heads_up s.words (head_at k w₀) new (head_at k w) inside (let n₀ : h₀ ≤ new = omega arith in n₀))
      (λ w _ other. head_head k s.words w₀ p.lane new w other) (le_refl (length l.sent)) (λ q z e. e)
      (λ d e. let long : length l.sent ≡ h₀ = e in absurd (omega arith)) in
      let hands : (q : ℕ) → Hands k r.lanes ls q = λ q. hands_put k r.lanes w₀ i₀ l.sent l.held l.done cell' q
      (λ e. let z : full ≡ reading q = ap (λ (z : Cell). z.1) (sym fl.0) ∙ e in cc) in
      let entry : Received T = record { writer = w₀; number = h; item = x } in let v' : View T = one_of_readers (taking b x) in
      let sent_is : l.sent ≡ (ls w₀).sent = ap (λ (z : Lane T). z.sent) (sym (put_here r.lanes w₀ l')) in
      let old_ok = reader_stays k r.lanes ls hs hs' g b (λ _. hands b.number) p in
      let mine : ReaderOk k ls hs' (taking b x) = record {
        known = p.known;
        writers = p.writers;
        per_writer = p.per_writer;
        lane = p.lane;
        head = old_ok.head;
        ready = old_ok.ready;
        shown = each_append (GotOk k ls hs') b.got (entry ∷ []) old_ok.shown (
          record {
            known = p.lane;
            taken = (let g' : h < get_or ws' (head_at k w₀) 0 = omega arith in g');
            put = ap
                (λ (z : List T). get_elem? z h) (sym sent_is) ∙ fl.2.1;
          },
          tt,
        );
        rises = rises_more b.got entry p.rises (each_map (GotOk k r.lanes hs) (λ (f : Received T). f.writer ≡ w₀ → f.number < h)
            (λ f q e. let t : f.number < h₀ = subst (λ (z : ℕ). f.number < get_or s.words (head_at k z) 0) e q.taken in omega arith) b.got p.shown);
        ends = old_ok.ends;
        held = λ _. (ap (λ (z : Lane T). z.cells i₀) (put_here r.lanes w₀ l') ∙ put_here l.cells i₀ cell', (b.got, x, refl));
      } in
      let go : LanesRule k record { words = ws'; homes = homes'; views = set s.views id v' } = rule_moves k s r id
      (one_of_readers b) v' w₀ l' ws' homes' at (length-set s.words (head_at k w₀) new) (length-set s.homes at_slot none)
      (lane_stays C r.some_room l' (get_or ws' (head_at k w₀) 0) e₀ ms (λ (j : ℕ). get_elem? homes' (slot_at k w₀ j)) here
      (get_or ws' (head_at k w₀) 0) (get_or ws' (end_at k w₀) 0) (λ (j : ℕ). get_or ws' (mark_at k w₀ j) 0)
      (λ (j : ℕ). get_elem? homes' (slot_at k w₀ j)) refl (head_end k s.words w₀ p.lane new w₀ p.lane)
      (λ j lj. head_mark k s.words w₀ p.lane new w₀ j) (λ j lj. refl))
      (λ w lw other. (
        head_head k s.words w₀ p.lane new w other,
        head_end k s.words w₀ p.lane new w lw,
        (λ j lj. head_mark k s.words w₀ p.lane new w j),
        (λ j lj. home_else k s.homes w₀ i₀ p.lane near none w j lj (λ e. other e.0)),
      ))
      (tt, (mine, tt))
      (λ j u other e. let o = r.each_seat j u e in (
        each_map (WriterOk k r.lanes hs) (WriterOk k ls hs')
            (λ a q. writer_same r.lanes hs hs' w₀ i₀ cell' a q) u.writers o.0,
        each_map (ReaderOk k r.lanes hs) (ReaderOk k ls hs')
            (λ q z. reader_stays k r.lanes ls hs hs' g q (λ _. hands q.number) z) u.readers o.1,
      ))
      (λ w. refl) (λ w. refl)
      (λ w m lw. let t = total_set (entries w m) s.views id (one_of_readers b) v' at in let o = r.taken_once w m lw in let x₁ : ℕ = total_of
      (entries w m) (set s.views id v') in let x₀ : ℕ = total_of (entries w m) s.views in
      let q₀ : ℕ = got_once w m b in let q₁ : ℕ = got_once w m (taking b x) in
      let t' : x₁ + (q₀ + 0) ≡ x₀ + (q₁ + 0) = t in let d₀ : ℕ = same w₀ w in let d₁ : ℕ = same h m in
      let q' : q₁ ≡ q₀ + (d₀ * d₁ + 0) = total_append (is_entry w m) b.got (entry ∷ []) in
      let a₁ : ℕ = once_below m (get_or ws' (head_at k w) 0) in
      let a₀ : ℕ = once_below m (get_or s.words (head_at k w) 0) in let o' : x₀ ≡ a₀ = o in
      dite (ℕ_discrete w₀ w)
      (λ e. let one : d₀ * d₁ ≡ d₁ = ap (λ (z : ℕ). z * d₁) (same_refl w₀ w e) ∙ (let g' : 1 * d₁ ≡ d₁ = omega arith in g') in
      let up : a₁ ≡ a₀ + d₁ = ap (λ (z : ℕ). once_below m (get_or ws' (head_at k z) 0)) (sym e) ∙ ap (once_below m) here_head ∙ once_next m h ∙ ap
      (λ (z : ℕ). once_below m z + d₁) (sym at_head ∙ ap (λ (z : ℕ). get_or s.words (head_at k z) 0) e) in
      omega arith)
      (λ ne. let none_of : d₀ * d₁ ≡ 0 = ap (λ (z : ℕ). z * d₁) (same_ne w₀ w ne) ∙ (let g' : 0 * d₁ ≡ 0 = omega arith in g') in
      let up : a₁ ≡ a₀ = ap (once_below m) (head_head k s.words w₀ p.lane new w (λ e. ne (sym e))) in omega arith)) in (
        x,
        fl.2.1,
        ap (get_elem? s.homes) eslot ∙ fl.2.2,
        subst (λ (z : ℕ). LanesRule k record {
          words = set s.words (head_at k w₀) new;
          homes = set s.homes z none;
          views = set s.views id v';
        }) (sym eslot) go,
      )
    where
      heads_up : (ws : List ℕ) (w₀ new w : ℕ) → w₀ < length ws → get_or ws w₀ 0 ≤ new → get_or ws w 0 ≤ get_or (set ws w₀ new) w 0
      heads_up ws w₀ new w inside le = dite (ℕ_discrete w w₀)
          (λ e. subst (λ (z : ℕ). get_or ws z 0 ≤ get_or (set ws w₀ new) z 0) (sym e)
          (subst (λ (z : ℕ). get_or ws w₀ 0 ≤ z) (sym (get_or-set_same ws w₀ new 0 inside)) le))
          (λ n. subst (λ (z : ℕ). get_or ws w 0 ≤ z) (sym (get_or-set_other ws w₀ w new 0 n)) (le_refl (get_or ws w 0)))

  -- the slot is free again
  pub frees_kept : (s : St T) (r : LanesRule k s) (id : ℕ) (b : Reading T) (at : get_elem? s.views id ≡ some (one_of_readers b))
      → b.held ≡ true
      → LanesRule k record {
        words = set s.words (mark_at k b.lane (b.head % k.per_writer)) (2 * (b.head / k.per_writer) + 2);
        homes = set s.homes
            (seen_slot_of b) (some None);
        views = set s.views id (one_of_readers (freeing b));
      }
  frees_kept s r id b at held = let new : ℕ = 2 * (b.head / k.per_writer) + 2 in let is : new ≡ 2 * (b.head / k.per_writer) + 2 = refl in
      let p = own s r id b at in let w₀ : ℕ = b.lane in let l : Lane T = r.lanes w₀ in let C : ℕ = k.per_writer in
      let ok = r.each_lane w₀ p.lane in let h : ℕ = b.head in let i₀ : ℕ = h % C in
      let near : i₀ < C = mod-lt h r.some_room in
      let h₀ : ℕ = get_or s.words (head_at k w₀) 0 in let e₀ : ℕ = get_or s.words (end_at k w₀) 0 in
      let ms = λ (j : ℕ). get_or s.words (mark_at k w₀ j) 0 in let os = λ (j : ℕ). get_elem? s.homes (slot_at k w₀ j) in
      let has = (p.held held).0 in
      let eslot : seen_slot_of b ≡ slot_at k w₀ i₀ = ap (λ (z : ℕ). w₀ * z + h % z) p.per_writer in
      let at_slot : ℕ = slot_at k w₀ i₀ in let at_mark : ℕ = mark_at k w₀ i₀ in
      let cell' : Cell = (h + C, free) in let l' : Lane T = recelled l i₀ cell' in let ls : ℕ → Lane T = put r.lanes w₀ l' in
      let ws' : List ℕ = set s.words at_mark new in
      let homes' : List (maybe.Option (Option T)) = set s.homes at_slot (some None) in let hs = heads_of k s.words in
      let hs' = heads_of k ws' in
      let here = lane_frees C r.some_room l h₀ e₀ ms os ok h b.number (λ (j : ℕ). get_or ws' (mark_at k w₀ j) 0)
      (λ (j : ℕ). get_elem? homes' (slot_at k w₀ j)) has
      (get_or-set_same s.words at_mark new 0 (subst (λ (z : ℕ). at_mark < z) (sym r.wide) (mark_within k w₀ i₀ p.lane near)) ∙ is)
      (set_here s.homes at_slot (some None) (subst (λ (z : ℕ). at_slot < z) (sym r.slots) (slot_within k w₀ i₀ p.lane near)))
      (λ j lj other. mark_mark k s.words w₀ p.lane new i₀ near w₀ j lj (λ e. other e.1))
      (λ j lj other. home_else k s.homes w₀ i₀ p.lane near (some None) w₀ j lj (λ e. other e.1)) in
      let heads : (w : ℕ) → w < k.writers → get_or ws' (head_at k w) 0 ≡ get_or s.words (head_at k w) 0 = mark_head k s.words w₀ p.lane new i₀ near in
      let ends' : (w : ℕ) → w < k.writers → get_or ws' (end_at k w) 0 ≡ get_or s.words (end_at k w) 0 = mark_end k s.words w₀ p.lane new i₀ near in
      let g : Grows k r.lanes ls hs hs' = grows_put k r.lanes hs hs' w₀ l'
      (λ w lw. let e = heads w lw in let x : ℕ = get_or ws' (head_at k w) 0 in let y : ℕ = get_or s.words (head_at k w) 0 in let e' : x
      ≡ y = e in (let g' : y ≤ x = omega arith in g')) (λ w lw _. heads w lw) (le_refl (length l.sent)) (λ q z e. e)
      (λ d e. (d, refl, heads w₀ p.lane)) in
      let hands : (q : ℕ) → q ≢ b.number → Hands k r.lanes ls q = λ q other. hands_put k r.lanes w₀ i₀ l.sent l.held l.done cell' q
      (λ e. other (sym (ap holder (sym (ap (λ (z : Cell). z.1) has) ∙ e)))) in
      let v' : View T = one_of_readers (freeing b) in
      let mine : ReaderOk k ls hs' (freeing b) = reader_stays k r.lanes ls hs hs' g (freeing b)
      (λ e. clash e) record {
        known = p.known;
        writers = p.writers;
        per_writer = p.per_writer;
        lane = p.lane;
        head = p.head;
        ready = p.ready;
        shown = p.shown;
        rises = p.rises;
        ends = p.ends;
        held = λ e. clash e;
      } in
      let go : LanesRule k record { words = ws'; homes = homes'; views = set s.views id v' } = rule_moves k s r id
      (one_of_readers b) v' w₀ l' ws' homes' at (length-set s.words at_mark new) (length-set s.homes at_slot (some None))
      (subst (λ (z : ℕ × ℕ). LaneOk C l' z.0 z.1 (λ (j : ℕ). get_or ws' (mark_at k w₀ j) 0) (λ (j : ℕ). get_elem? homes' (slot_at k w₀ j)))
      (λ j. (sym (heads w₀ p.lane) j, sym (ends' w₀ p.lane) j)) here)
      (λ w lw other. (
        heads w lw,
        ends' w lw,
        (λ j lj. mark_mark k s.words w₀ p.lane new i₀ near w j lj (λ e. other e.0)),
        (λ j lj. home_else k s.homes w₀ i₀ p.lane near (some None) w j lj (λ e. other e.0)),
      ))
      (tt, (mine, tt))
      (λ j u other e. let o = r.each_seat j u e in (
        each_map (WriterOk k r.lanes hs) (WriterOk k ls hs') (λ a q. writer_same r.lanes hs hs' w₀ i₀ cell' a q) u.writers o.0,
        each_absent (ReaderOk k r.lanes hs) (ReaderOk k ls hs') (λ (q : Reading T). q.number) b.number
            (λ q apart z. reader_stays k r.lanes ls hs hs' g q (λ _. hands q.number apart) z) u.readers (alone s r id b at j u other e) o.1,
      ))
      (λ w. refl) (λ w. refl)
      (λ w m lw. let t = total_set (entries w m) s.views id (one_of_readers b) v' at in let o = r.taken_once w m lw in let x₁ : ℕ = total_of
      (entries w m) (set s.views id v') in let x₀ : ℕ = total_of (entries w m) s.views in
      let q₀ : ℕ = got_once w m b in let t' : x₁ + (q₀ + 0) ≡ x₀ + (q₀ + 0) = t in
      let same_now : x₁ ≡ x₀ = omega arith in same_now ∙ o ∙ ap (once_below m) (sym (heads w lw))) in
      subst (λ (z : ℕ). LanesRule k record { words = set s.words at_mark new; homes = set s.homes z (some None); views = set s.views id v' }) (sym eslot) go
    where
      clash : {A : Type 0} → false ≡ true → A
      clash e = cc

  module _ (s : St T) (r : LanesRule k s) (id : ℕ) (b : Reading T) (at : get_elem? s.views id ≡ some (one_of_readers b)) where
    abbrev hs : ℕ → ℕ
    hs = heads_of k s.words

    -- a load: the new view counts as the old one did
    noted : (b' : Reading T) → b'.number ≡ b.number → b'.got ≡ b.got → ReaderOk k r.lanes hs b'
        → LanesRule k record { words = s.words; homes = s.homes; views = set s.views id (one_of_readers b') }
    noted b' en eg ok =
        reviewed k s r id (one_of_readers b) (one_of_readers b') at (tt, (ok, tt)) (λ w. refl) (λ w. ap (λ (z : ℕ). same z w + 0) en)
        (λ w n. ap (λ (z : List (Received T)). total_of (is_entry w n) z + 0) eg)

    -- the head of a lane is read
    pub looks_kept : (w : ℕ) → w < k.writers → b.held ≡ false
        → LanesRule k record { words = s.words; homes = s.homes; views = set s.views id (one_of_readers (looking b w (get_or s.words (head_at k w) 0))) }
    looks_kept w near empty = let p = own s r id b at in let h : ℕ = get_or s.words (head_at k w) 0 in
        noted (looking b w h) refl refl record {
          known = p.known;
          writers = p.writers;
          per_writer = p.per_writer;
          lane = near;
          head = le_refl h;
          ready = λ e. absurd (both_ways _ refl e);
          shown = p.shown;
          rises = p.rises;
          ends = p.ends;
          held = λ e. absurd (both_ways _ empty e);
        }

    -- the part at the head is seen published
    pub sees_kept : get_or s.words (mark_at k b.lane (b.head % k.per_writer)) 0 ≡ 2 * (b.head / k.per_writer) + 1
        → LanesRule k record { words = s.words; homes = s.homes; views = set s.views id (one_of_readers (seeing b)) }
    sees_kept found = let p = own s r id b at in let w₀ : ℕ = b.lane in
        let lt = ready_found k.per_writer r.some_room (r.lanes w₀) (get_or s.words (head_at k w₀) 0) (get_or s.words (end_at k w₀) 0)
        (λ (j : ℕ). get_or s.words (mark_at k w₀ j) 0) (λ (j : ℕ). get_elem? s.homes (slot_at k w₀ j)) (r.each_lane w₀ p.lane) b.head p.head found in
        noted (seeing b) refl refl record {
          known = p.known;
          writers = p.writers;
          per_writer = p.per_writer;
          lane = p.lane;
          head = p.head;
          ready = λ _. lt;
          shown = p.shown;
          rises = p.rises;
          ends = p.ends;
          held = p.held;
        }

    -- the end of the lane is seen, and each total that the view then has is the lane's
    pub ends_noted : get_or s.words (end_at k b.lane) 0 ≡ suc b.head → Each (EndOk k r.lanes hs) (ending b).ends
    ends_noted found =
        let p = own s r id b at in let w₀ : ℕ = b.lane in let l = r.lanes w₀ in let ok = r.each_lane w₀ p.lane in
        let d = at_end l.done (length l.sent) b.head (sym ok.ended ∙ found) in
        let h₀ : ℕ = get_or s.words (head_at k w₀) 0 in let below : b.head ≤ h₀ = p.head in
        let behind : h₀ ≤ length l.sent = ok.behind in let long : length l.sent ≡ b.head = d.1 in
        each_append (EndOk k r.lanes hs) b.ends (record { writer = b.lane; total = b.head } ∷ []) p.ends
        (record { known = p.lane; done = d.0; sent = long; taken = (let g : h₀ ≡ b.head = omega arith in g) }, tt)

    pub ends_kept : get_or s.words (end_at k b.lane) 0 ≡ suc b.head
        → LanesRule k record { words = s.words; homes = s.homes; views = set s.views id (one_of_readers (ending b)) }
    ends_kept found = let p = own s r id b at in
        noted (ending b) refl refl record {
          known = p.known;
          writers = p.writers;
          per_writer = p.per_writer;
          lane = p.lane;
          head = p.head;
          ready = p.ready;
          shown = p.shown;
          rises = p.rises;
          ends = ends_noted found;
          held = p.held;
        }
