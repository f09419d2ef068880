-- Each step moves the state of the queue that the lanes show by its entry, as a legal history may, or not at all.
use Rattle.std.proofs.Common.{◌≡◌, ℕ, zero, suc, ◌+◌, ◌*◌, ◌/◌, ◌%◌, ◌<◌, ◌≤◌, ◌≢◌, eqb, cond, ◌||◌, true, false, List, [], ◌∷◌, ◌++◌, length, drop, get_or, set, refl, sym, ap, ◌∙◌, subst, eq-eqb, ne_eqb, length-append, le_refl, mod-lt, lt_of_not-le, arith, get_or-set_same, ⊎_elim, append_assoc}
use mathlib.Core.Option.{none, some}
use mathlib.Core.Option as maybe
use mathlib.Core.Logic.{dite}
use native.Mathlib.Decide.{dec_le, ℕ_discrete}
use lib.ListN.{get_elem?}
use Rattle.std.specs.Prelude.{Option, Some, None, slice_get}
use Rattle.atomic_table.proofs.Lists.{at_longer, at_last, at_snoc}
use Rattle.kmc_partcore.specs.declared.shape.QueueShape.{QueueShape}
use Rattle.kmc_partcore.specs.declared.event.Received.{Received}
use Rattle.kmc_partcore.specs.History.{Entry, History, Leaving, item_left, accepted, left, is_registered, has_completed}
use Rattle.kmc_partcore.specs.State.{QueueState, state_of, live_of}
use Rattle.kmc_partcore.specs.Legal.{Fits, IsLegal}
use Rattle.kmc_partqueue.specs.declared.views.Writing.{Writing}
use Rattle.kmc_partqueue.specs.declared.views.Reading.{Reading}
use Rattle.kmc_partqueue.specs.declared.views.View.{View}
use Rattle.kmc_partqueue.specs.Counts.{Each, Among, total_of, same}
use Rattle.kmc_partqueue.specs.Ends.{AreSeenTotals}
use Rattle.kmc_partqueue.specs.Rule.{mark_at, end_at, head_at, writers_of, WriterOk, EndOk, LanesRule}
use Rattle.kmc_partqueue.specs.Dealing.{one_of_writers, one_of_readers, all_seats, fresh_writer, fresh_reader, no_writer, its_writer, no_reader, its_reader, both, spent}
use Rattle.kmc_partqueue.specs.Plays.{next_slot_of, seen_slot_of, received, holding, sending, completed, looking, seeing, taking, freeing, ending}
use Rattle.kmc_partqueue.specs.Shown.{WriterShows, ReaderShows, IsShown}
use Rattle.kmc_partqueue.specs.Laws.{registrations, StepLaw, StepsLaw}
use Rattle.kmc_partqueue.specs.Reached.{opened}
use Rattle.kmc_partqueue.specs.Steps as step
use Rattle.kmc_partqueue.specs.Steps.{IsStep, AreSteps, was_put, was_completed, was_taken, was_finished}
use Rattle.kmc_partqueue.specs.Lemmas.Sums.{same_ne, each_map, each_absent, each_append, each_both, views_stay}
use Rattle.kmc_partqueue.proofs.Frame.{St, heads_of}
use Rattle.kmc_partqueue.proofs.Kept.{claimed, kept, opening_rule}
use Rattle.kmc_partqueue.specs.Lemmas.Numbered.{each_row}
use Rattle.kmc_partqueue.proofs.Dealing.{zeros, each_first, each_rest}
use Rattle.kmc_partqueue.proofs.Final.{each_at}
use Rattle.kmc_partqueue.proofs.Places.{mark_head, end_head, head_head}
use Rattle.kmc_partqueue.proofs.WriterSteps as writer
use Rattle.kmc_partqueue.proofs.ReaderSteps as reader

hit : {A : Type 0} (v w : ℕ) (a b : A) → v ≡ w → cond (eqb v w) a b ≡ a
hit v w a b e = ap (λ z. cond z a b) (eq-eqb v w e)

miss : {A : Type 0} (v w : ℕ) (a b : A) → v ≢ w → cond (eqb v w) a b ≡ b
miss v w a b n = ap (λ z. cond z a b) (ne_eqb v w n)

none_more : {A : Type 0} (l : List A) → l ++ [] ≡ l
none_more [] = refl
none_more (x ∷ l) = λ j. x ∷ none_more l j

drop_long : {A : Type 0} (n : ℕ) (l : List A) → n ≤ length l → length (drop n l) + n ≡ length l
drop_long zero l le = let m : ℕ = length l in let g : m + 0 ≡ m = omega arith in g
drop_long (suc n) [] le = absurd (omega arith)
drop_long (suc n) (x ∷ l) le = let r = drop_long n l (omega arith) in omega arith

drop_first : {A : Type 0} (n : ℕ) (l : List A) (x : A) → get_elem? l n ≡ some x → slice_get (drop n l) 0 ≡ Some x
drop_first zero [] x e = absurd (maybe.some-ne-none x (sym e))
drop_first zero (y ∷ l) x e = let e' : some y ≡ some x = e in let z : y ≡ x = cc in ap Some z
drop_first (suc n) [] x e = absurd (maybe.some-ne-none x (sym e))
drop_first (suc n) (y ∷ l) x e = drop_first n l x e

drop_all : {A : Type 0} (n : ℕ) (l : List A) → n ≡ length l → drop n l ≡ []
drop_all zero [] e = refl
drop_all zero (x ∷ l) e = absurd (omega arith)
drop_all (suc n) [] e = absurd (omega arith)
drop_all (suc n) (x ∷ l) e = drop_all n l (omega arith)

module _ {T : Type 0} where
  -- what has left stays so after an entry
  leaves_on : (h : History T) (e : Entry T) (b : Reading T) → ReaderShows (state_of h) b → ReaderShows (state_of (e ∷ h)) b
  leaves_on h e b =
      each_map (λ (x : Received T). get_elem? (left x.writer h) x.number ≡ some (b.number, x.number, x.item))
      (λ (x : Received T). get_elem? (left x.writer (e ∷ h)) x.number ≡ some (b.number, x.number, x.item))
      (λ x g. at_longer (left x.writer h) (item_left x.writer e) x.number (b.number, x.number, x.item) g) b.got

  all_leave_on : (h : History T) (e : Entry T) (l : List (Reading T)) → Each (ReaderShows (state_of h)) l
      → Each (ReaderShows (state_of (e ∷ h))) l
  all_leave_on h e = each_map (ReaderShows (state_of h)) (ReaderShows (state_of (e ∷ h))) (leaves_on h e)

  -- an entry that adds no part and completes no writer
  writes_on : (h : History T) (e : Entry T) → ((w : ℕ) → accepted w (e ∷ h) ≡ accepted w h)
      → ((w : ℕ) → has_completed w (e ∷ h) ≡ has_completed w h) → (l : List (Writing T))
      → Each (WriterShows (state_of h)) l → Each (WriterShows (state_of (e ∷ h))) l
  writes_on h e same_parts same_ends =
      each_map (WriterShows (state_of h)) (WriterShows (state_of (e ∷ h))) (λ a p. (p.0 ∙ sym (same_parts a.number), p.1 ∙ sym (same_ends a.number)))

  module _ (k : QueueShape) (s : St T) (r : LanesRule k s) (id : ℕ) (ws' : List ℕ) (homes' : List (maybe.Option (Option T))) where
    -- a step that changes no list, no end and no head
    pub quiet : (q : QueueState T) → IsShown k s q → (v v' : View T) → get_elem? s.views id ≡ some v
        → ((w : ℕ) → w < k.writers → get_or ws' (head_at k w) 0 ≡ get_or s.words (head_at k w) 0)
        → (Each (WriterShows q) v.writers → Each (WriterShows q) v'.writers)
        → (Each (ReaderShows q) v.readers → Each (ReaderShows q) v'.readers)
        → IsShown k record { words = ws'; homes = homes'; views = set s.views id v' } q
    quiet q shows v v' at same_heads ws rs = record {
      registered = shows.registered;
      heads = λ w near. shows.heads w near ∙ sym (same_heads w near);
      writers = views_stay (λ _ u. Each (WriterShows q) u.writers) s.views id v' (ws (shows.writers id v at)) (λ j u _ e. shows.writers j u e);
      readers = views_stay (λ _ u. Each (ReaderShows q) u.readers) s.views id v' (rs (shows.readers id v at)) (λ j u _ e. shows.readers j u e);
    }

    module _ (h : History T) (shows : IsShown k s (state_of h)) (a : Writing T) (at : get_elem? s.views id ≡ some (one_of_writers a))
        (same_heads : (w : ℕ) → w < k.writers → get_or ws' (head_at k w) 0 ≡ get_or s.words (head_at k w) 0) where
      mine : WriterShows (state_of h) a
      mine = (shows.writers id (one_of_writers a) at).0

      near : a.number < k.writers
      near = (writer.own k s r id a at).known

      -- a part is published
      pub puts_show : (x : T) → a.held ≡ true → a.done ≡ false → length a.sent < 4294967295
          → Fits k (live_of (state_of h)) (was_put a x) × IsShown k record {
            words = ws';
            homes = homes';
            views = set s.views id
                (one_of_writers (sending a x));
          } (state_of (was_put a x ∷ h))
      puts_show x held going small =
          let n : ℕ = a.number in let e : Entry T = was_put a x in let all : List T = accepted n h in
          let gone : List (Leaving T) = left n h in
          let long : length a.sent ≡ length all = ap length mine.0 in let o = writer.own k s r id a at in
          let ok = writer.ok₀ k s r id a at in let l = r.lanes n in let is = ok.writes (sym o.held ∙ held) in
          let cell = ok.each_cell (length l.sent % k.per_writer) (mod-lt (length l.sent) r.some_room) in
          let room : length l.sent < get_or s.words (head_at k n) 0 + k.per_writer = subst
          (λ (c : ℕ × _). c.0 < get_or s.words (head_at k n) 0 + k.per_writer) is cell.freed in
          let same_long : length a.sent ≡ length l.sent = ap length o.sent in
          let hd : length gone ≡ get_or s.words (head_at k n) 0 = shows.heads n near in
          let behind : get_or s.words (head_at k n) 0 ≤ length l.sent = ok.behind in
          let rest : ℕ = length (drop (length gone) all) in
          let counted : rest + length gone ≡ length all = drop_long (length gone) all (omega arith) in (
            (
              (near, shows.registered n near, sym mine.1 ∙ going),
              (let g : length all < 4294967295 = omega arith in g),
              (let g : rest < k.per_writer = omega arith in g),
              long,
            ),
            record {
              registered = shows.registered;
              heads = λ w lw. ap length (none_more (left w h)) ∙ shows.heads w lw ∙ sym (same_heads w lw);
              writers = views_stay (λ _ u. Each (WriterShows (state_of (e ∷ h))) u.writers) s.views id (one_of_writers (sending a x))
                  (((ap (λ z. z ++ x ∷ []) mine.0 ∙ ap (λ z. accepted n h ++ z) (sym (hit n n (x ∷ []) [] refl)), mine.1), tt))
                  (λ j u other at'. each_absent (WriterShows (state_of h)) (WriterShows (state_of (e ∷ h))) (λ (b : Writing T). b.number) n
                  (λ b apart p. (
                    p.0 ∙ sym (ap (λ z. accepted b.number h ++ z) (miss n b.number (x ∷ []) [] (λ e'. apart (sym e'))) ∙ none_more
                        (accepted b.number h)),
                    p.1,
                  )) u.writers (writer.alone k s r id a at j u other at') (shows.writers j u at'));
              readers = views_stay (λ _ u. Each (ReaderShows (state_of (e ∷ h))) u.readers) s.views id (one_of_writers (sending a x)) tt
                  (λ j u _ at'. all_leave_on h e u.readers (shows.readers j u at'));
            },
          )

      -- a lane is closed
      pub completes_show : a.done ≡ false
          → Fits k (live_of (state_of h)) (was_completed a) × IsShown k record {
            words = ws';
            homes = homes';
            views = set s.views id
                (one_of_writers (completed a));
          } (state_of (was_completed a ∷ h))
      completes_show going = let n : ℕ = a.number in let e : Entry T = was_completed a in (
        (near, shows.registered n near, sym mine.1 ∙ going),
        record {
          registered = shows.registered;
          heads = λ w lw. ap length (none_more (left w h)) ∙ shows.heads w lw ∙ sym (same_heads w lw);
          writers = views_stay (λ _ u. Each (WriterShows (state_of (e ∷ h))) u.writers) s.views id (one_of_writers (completed a))
              ((mine.0 ∙ sym (none_more (accepted n h)), sym (ap (λ b. b || has_completed n h) (eq-eqb n n refl))), tt)
              (λ j u other at'. each_absent (WriterShows (state_of h)) (WriterShows (state_of (e ∷ h))) (λ (b : Writing T). b.number) n
              (λ b apart p. (
                p.0 ∙ sym (none_more (accepted b.number h)),
                p.1 ∙ sym
                    (ap (λ z. z || has_completed b.number h) (ne_eqb n b.number (λ e'. apart (sym e')))),
              )) u.writers
              (writer.alone k s r id a at j u other at') (shows.writers j u at'));
          readers = views_stay (λ _ u. Each (ReaderShows (state_of (e ∷ h))) u.readers) s.views id (one_of_writers (completed a)) tt
              (λ j u _ at'. all_leave_on h e u.readers (shows.readers j u at'));
        },
      )

find_view : {A : Type 0} (f : A → ℕ) (l : List A) → 1 ≤ total_of f l → (j : ℕ) × (v : A) × (get_elem? l j ≡ some v) × (1 ≤ f v)
find_view f [] le = absurd (let le' : 1 ≤ 0 = le in omega arith)
find_view f (x ∷ l) le =
    let t : ℕ = total_of f l in let u : ℕ = f x in let le' : 1 ≤ u + t = le in
    dite (dec_le 1 u) (λ here. (0, x, refl, here))
    (λ no_here. let z : u < 1 = lt_of_not-le no_here in let r = find_view f l (omega arith) in (suc r.0, r.1, r.2, r.3))

find_side : {A : Type 0} (num : A → ℕ) (w : ℕ) (P : A → Type 0) (l : List A)
    → 1 ≤ total_of (λ (x : A). same (num x) w) l → Each P l → (x : A) × (num x ≡ w) × P x
find_side num w P [] le p = absurd (let le' : 1 ≤ 0 = le in omega arith)
find_side {A} num w P (x ∷ l) le p = dite (ℕ_discrete (num x) w) (λ is. (x, is, p.0))
    (λ other. let t : ℕ = total_of (λ (y : A). same (num y) w) l in let u : ℕ = same (num x) w in let z : u ≡ 0 = same_ne (num x) w other in
    let le' : 1 ≤ u + t = le in find_side num w P l (omega arith) p.1)

module _ {T : Type 0} (k : QueueShape) (s : St T) (r : LanesRule k s) (h : History T) (shows : IsShown k s (state_of h)) where
  -- the history's parts are the lane's
  pub lane_shows : (w : ℕ) → w < k.writers → (accepted w h ≡ (r.lanes w).sent) × (has_completed w h ≡ (r.lanes w).done)
  lane_shows w near = let v = find_view (writers_of w) s.views (subst (λ (z : ℕ). 1 ≤ z) (sym (r.one_writer w near)) (le_refl 1)) in
      let a = find_side (λ (a : Writing T). a.number) w (λ a. WriterOk k r.lanes (heads_of k s.words) a × WriterShows (state_of h) a) v.1.writers v.3
      (each_both (WriterOk k r.lanes (heads_of k s.words)) (WriterShows (state_of h)) v.1.writers (r.each_seat v.0 v.1 v.2).0
      (shows.writers v.0 v.1 v.2)) in (
        ap (λ z. accepted z h) (sym a.1) ∙ sym a.2.1.0 ∙ a.2.0.sent ∙ ap (λ z. (r.lanes z).sent) a.1,
        ap (λ z. has_completed z h) (sym a.1)
            ∙ sym a.2.1.1 ∙ a.2.0.done ∙ ap (λ z. (r.lanes z).done) a.1,
      )

  module _ (id : ℕ) (b : Reading T) (at : get_elem? s.views id ≡ some (one_of_readers b)) where
    -- a part is claimed
    pub takes_show : (ws' : List ℕ) (homes' : List (maybe.Option (Option T))) (x : T)
        → get_or s.words (head_at k b.lane) 0 ≡ b.head → get_elem? (r.lanes b.lane).sent b.head ≡ some x
        → get_or ws' (head_at k b.lane) 0 ≡ b.head + 1
        → ((w : ℕ) → w < k.writers → w ≢ b.lane → get_or ws' (head_at k w) 0 ≡ get_or s.words (head_at k w) 0)
        → Fits k (live_of (state_of h)) (was_taken b x) × IsShown k record {
          words = ws';
          homes = homes';
          views = set s.views id
              (one_of_readers (taking b x));
        } (state_of (was_taken b x ∷ h))
    takes_show ws' homes' x at_head has next same_heads =
        let p = reader.own k s r id b at in let w₀ : ℕ = b.lane in
        let hd : length (left w₀ h) ≡ b.head = shows.heads w₀ p.lane ∙ at_head in let e : Entry T = was_taken b x in
        let e₀ : List (Leaving T) = (b.number, b.head, x) ∷ [] in (
          (p.known, p.lane, sym hd, drop_first (length (left w₀ h)) (accepted w₀ h) x ((λ j. get_elem? ((lane_shows w₀ p.lane).0 j) (hd j)) ∙ has)),
          record {
            registered = shows.registered;
            heads = λ w lw. dite (ℕ_discrete w w₀)
                (λ is. ap (λ z. length (left z (e ∷ h))) is ∙ ap (λ z. length (left w₀ h ++ z)) (hit w₀ w₀ e₀ [] refl) ∙ length-append (left w₀ h) e₀
                ∙ (let n : ℕ = length (left w₀ h) in let n' : n ≡ b.head = hd in let g : n + 1 ≡ b.head + 1 = omega arith in g) ∙ sym next ∙ ap
                (λ z. get_or ws' (head_at k z) 0) (sym is))
                (λ other. ap (λ z. length (left w h ++ z)) (miss w₀ w e₀ [] (λ e'. other (sym e'))) ∙ ap length (none_more (left w h))
                ∙ shows.heads w lw ∙ sym (same_heads w lw other));
            writers = views_stay (λ _ u. Each (WriterShows (state_of (e ∷ h))) u.writers) s.views id (one_of_readers (taking b x)) tt
                (λ j u _ at'. writes_on h e (λ w. none_more (accepted w h)) (λ w. refl) u.writers (shows.writers j u at'));
            readers = views_stay (λ _ u. Each (ReaderShows (state_of (e ∷ h))) u.readers) s.views id (one_of_readers (taking b x)) (
              each_append (λ (y : Received T). get_elem? (left y.writer (e ∷ h)) y.number ≡ some (b.number, y.number, y.item)) b.got
                  (received b x ∷ []) (leaves_on h e b (shows.readers id (one_of_readers b) at).0)
                  (ap (λ z. get_elem? (left w₀ h ++ z) b.head) (hit w₀ w₀ e₀ [] refl) ∙ at_last (left w₀ h) (b.number, b.head, x) b.head hd, tt),
              tt,
            )
                (λ j u _ at'. all_leave_on h e u.readers (shows.readers j u at'));
          },
        )

    -- each lane was seen at its end
    pub finished_shows : (totals : List ℕ) (ws' : List ℕ) (homes' : List (maybe.Option (Option T)))
        → get_or s.words (end_at k b.lane) 0 ≡ suc b.head → AreSeenTotals k.writers (ending b).ends totals
        → ((w : ℕ) → w < k.writers → get_or ws' (head_at k w) 0 ≡ get_or s.words (head_at k w) 0)
        → Fits k (live_of (state_of h)) (was_finished b.number totals)
        × IsShown k record { words = ws'; homes = homes'; views = set s.views id (one_of_readers (ending b)) } (state_of (was_finished b.number totals ∷ h))
    finished_shows totals ws' homes' found (wide, all) same_heads =
        let e : Entry T = was_finished b.number totals in let noted = reader.ends_noted k s r id b at found in (
          (
            (reader.own k s r id b at).known,
            (λ w near. let t = all w near in let d = ended w near (t.0, t.1) noted in let o = lane_shows w near in drop_all (length (left w h))
                (accepted w h) (shows.heads w near ∙ d.taken ∙ sym d.sent ∙ sym (ap length o.0))),
            (λ w near. let t = all w near in (lane_shows w near).1 ∙ (ended w near (t.0, t.1) noted).done),
            (wide, λ w near. let t = all w near in let d = ended w near (t.0, t.1) noted in t.2 ∙ ap Some (sym d.sent ∙ sym (ap length (lane_shows w near).0))),
          ),
          record {
            registered = shows.registered;
            heads = λ w lw. ap length (none_more (left w h)) ∙ shows.heads w lw ∙ sym (same_heads w lw);
            writers = views_stay (λ _ u. Each (WriterShows (state_of (e ∷ h))) u.writers) s.views id (one_of_readers (ending b)) tt
                (λ j u _ at'. writes_on h e (λ w. none_more (accepted w h)) (λ w. refl) u.writers (shows.writers j u at'));
            readers = views_stay (λ _ u. Each (ReaderShows (state_of (e ∷ h))) u.readers) s.views id (one_of_readers (ending b))
                (leaves_on h e b (shows.readers id (one_of_readers b) at).0, tt) (λ j u _ at'. all_leave_on h e u.readers (shows.readers j u at'));
          },
        )
      where
        ended : (w : ℕ) → w < k.writers → (t : (n : ℕ) × Among record { writer = w; total = n } (ending b).ends)
            → Each (EndOk k r.lanes (heads_of k s.words)) (ending b).ends
            → EndOk k r.lanes (heads_of k s.words) record { writer = w; total = t.0 }
        ended w _ t noted =
            each_at (EndOk k r.lanes (heads_of k s.words)) (ending b).ends noted t.1.0 record { writer = w; total = t.0 } t.1.1

module _ {T : Type 0} (k : QueueShape) (s s' : St T) (r : LanesRule k s) where
  abbrev Showing : QueueState T → View T → Type 0
  Showing q u = Each (WriterShows q) u.writers × Each (ReaderShows q) u.readers

  reshown : (q : QueueState T) → IsShown k s q → (vs : List (View T))
      → ((j : ℕ) (u : View T) → get_elem? vs j ≡ some u → Showing q u)
      → IsShown k record { words = s.words; homes = s.homes; views = vs } q
  reshown q shows vs facts =
      record { registered = shows.registered; heads = shows.heads; writers = λ j u e. (facts j u e).0; readers = λ j u e. (facts j u e).1 }

  cut_shown : (q : QueueState T) → IsShown k s q → (id : ℕ) (left right : View T) → Showing q left → Showing q right
      → IsShown k record { words = s.words; homes = s.homes; views = set s.views id left ++ right ∷ [] } q
  cut_shown q shows id left right a b =
      reshown q shows (set s.views id left ++ right ∷ []) (λ j u e. ⊎_elim
      (views_stay (λ _ x. Showing q x) s.views id left a (λ j' u' _ e'. (shows.writers j' u' e', shows.readers j' u' e')) j u)
      (λ (is : right ≡ u). subst (Showing q) is b) (at_snoc (set s.views id left) right u j e))

  pub moved : (e : History T) → IsStep k s s' e → (h : History T) → IsLegal k h → IsShown k s (state_of h)
      → IsLegal k (e ++ h) × IsShown k s' (state_of (e ++ h))
  moved e (step.claims_free_slot id a at empty found is) h legal shows = (
    legal,
    subst (λ z. IsShown k z (state_of h)) (sym is) (quiet k s r id s.words (set s.homes (next_slot_of a) none) (state_of h) shows
        (one_of_writers a) (one_of_writers (holding a)) at (λ _ _. refl) (λ p. p) (λ p. p)),
  )
  moved e (step.publishes_part id a x at held going small is) h legal shows =
      let o = writer.own k s r id a at in let i₀ : ℕ = length a.sent % k.per_writer in
      let near : i₀ < k.per_writer = mod-lt (length a.sent) r.some_room in
      let new : ℕ = 2 * (length a.sent / k.per_writer) + 1 in
      let p = puts_show k s r id (set s.words (mark_at k a.number i₀) new) (set s.homes (next_slot_of a) (some (Some x))) h shows a at
      (mark_head k s.words a.number o.known new i₀ near) x held going small in
      ((p.0, legal), subst (λ z. IsShown k z (state_of (was_put a x ∷ h))) (sym is) p.1)
  moved e (step.closes_lane id a at going is) h legal shows = let o = writer.own k s r id a at in
      let p = completes_show k s r id (set s.words (end_at k a.number) (suc (length a.sent))) s.homes h shows a at
      (λ w _. end_head k s.words a.number o.known (suc (length a.sent)) w) going in
      ((p.0, legal), subst (λ z. IsShown k z (state_of (was_completed a ∷ h))) (sym is) p.1)
  moved e (step.reads_head id b w at near empty is) h legal shows = (
    legal,
    subst (λ z. IsShown k z (state_of h)) (sym is) (quiet k s r id s.words s.homes (state_of h) shows (one_of_readers b)
        (one_of_readers (looking b w (get_or s.words (head_at k w) 0))) at (λ _ _. refl) (λ p. p) (λ p. p)),
  )
  moved e (step.sees_published_part id b at found is) h legal shows = (
    legal,
    subst (λ z. IsShown k z (state_of h)) (sym is) (quiet k s r id s.words s.homes (state_of h) shows (one_of_readers b)
        (one_of_readers (seeing b)) at (λ _ _. refl) (λ p. p) (λ p. p)),
  )
  moved e (step.claims_part id b x at ready empty at_head has is) h legal shows =
      let o = reader.own k s r id b at in let prod : ℕ = k.writers * k.per_writer in
      let low : b.lane < k.writers = o.lane in
      let inside : head_at k b.lane < length s.words = subst (λ (z : ℕ). head_at k b.lane < z) (sym r.wide)
      (let g : k.writers + b.lane < 2 * k.writers + prod = omega arith in g) in
      let p = takes_show k s r h shows id b at (set s.words (head_at k b.lane) (b.head + 1)) (set s.homes (seen_slot_of b) none) x at_head
      (claimed k s s r id b x at ready at_head has).0 (get_or-set_same s.words (head_at k b.lane) (b.head + 1) 0 inside)
      (λ w _ other. head_head k s.words b.lane o.lane (b.head + 1) w other) in
      ((p.0, legal), subst (λ z. IsShown k z (state_of (was_taken b x ∷ h))) (sym is) p.1)
  moved e (step.releases_slot id b at held is) h legal shows =
      let o = reader.own k s r id b at in let i₀ : ℕ = b.head % k.per_writer in
      let near : i₀ < k.per_writer = mod-lt b.head r.some_room in (
        legal,
        subst (λ z. IsShown k z (state_of h)) (sym is) (quiet k s r id (set s.words (mark_at k b.lane i₀) (2 * (b.head / k.per_writer) + 2))
            (set s.homes (seen_slot_of b) (some None)) (state_of h) shows (one_of_readers b) (one_of_readers (freeing b)) at
            (mark_head k s.words b.lane o.lane (2 * (b.head / k.per_writer) + 2) i₀ near) (λ p. p) (λ p. p)),
      )
  moved e (step.reads_end id b at found more is) h legal shows = (
    legal,
    subst (λ z. IsShown k z (state_of h)) (sym is) (quiet k s r id s.words s.homes (state_of h) shows (one_of_readers b)
        (one_of_readers (ending b)) at (λ _ _. refl) (λ p. p) (λ p. p)),
  )
  moved e (step.reads_last_end id b totals at found before are is) h legal shows =
      let p = finished_shows k s r h shows id b at totals s.words s.homes found are (λ _ _. refl) in
      ((p.0, legal), subst (λ z. IsShown k z (state_of (was_finished b.number totals ∷ h))) (sym is) p.1)
  moved e (step.finds_nothing is) h legal shows = (legal, subst (λ z. IsShown k z (state_of h)) (sym is) shows)
  moved e (step.splits_writer id v at is) h legal shows = (
    legal,
    subst (λ z. IsShown k z (state_of h)) (sym is) (cut_shown (state_of h) shows id (no_writer v) (its_writer v)
        (each_rest (WriterShows (state_of h)) v.writers (shows.writers id v at), shows.readers id v at)
        (each_first (WriterShows (state_of h)) v.writers (shows.writers id v at), tt)),
  )
  moved e (step.splits_reader id v at is) h legal shows = (
    legal,
    subst (λ z. IsShown k z (state_of h)) (sym is) (cut_shown (state_of h) shows id (no_reader v) (its_reader v)
        (shows.writers id v at, each_rest (ReaderShows (state_of h)) v.readers (shows.readers id v at))
        (tt, each_first (ReaderShows (state_of h)) v.readers (shows.readers id v at))),
  )
  moved e (step.joins_seat id other v w at ne at' is) h legal shows = let q = state_of h in (
    legal,
    subst (λ z. IsShown k z (state_of h)) (sym is) (reshown (state_of h) shows (set (set s.views id (both v w)) other spent)
        (views_stay (λ _ x. Showing (state_of h) x) (set s.views id (both v w)) other spent (tt, tt)
        (λ j u _ e'. views_stay (λ _ x. Showing (state_of h) x) s.views id (both v w) (
          each_append (WriterShows (state_of h)) w.writers v.writers (shows.writers other w at') (shows.writers id v at),
          each_append
              (ReaderShows (state_of h)) w.readers v.readers (shows.readers other w at') (shows.readers id v at),
        )
        (λ j' u' _ e₀. (shows.writers j' u' e₀, shows.readers j' u' e₀)) j u e'))),
  )

-- the history after a list of steps
module _ {T : Type 0} (k : QueueShape) where
  pub all_moved : (s s' : St T) (e : History T) → AreSteps k s s' e → LanesRule k s → (h : History T) → IsLegal k h
      → IsShown k s (state_of h) → LanesRule k s' × IsLegal k (e ++ h) × IsShown k s' (state_of (e ++ h))
  all_moved s s' e (step.still is none_yet) r h legal shows = (
    subst (LanesRule k) is r,
    subst (λ z. IsLegal k (z ++ h)) (sym none_yet) legal,
    subst (λ z. IsShown k z (state_of (e ++ h))) is
        (subst (λ z. IsShown k s (state_of (z ++ h))) (sym none_yet) shows),
  )
  all_moved s s' e (step.then t d f steps move is) r h legal shows =
      let a = all_moved s t d steps r h legal shows in let b = moved k t s' a.0 f move (d ++ h) a.1 a.2 in
      (kept k t s' a.0 f move, subst (IsLegal k) (same_list f d h e is) b.0, subst (λ z. IsShown k s' (state_of z)) (same_list f d h e is) b.1)
    where
      same_list : (f d h e : History T) → e ≡ f ++ d → f ++ (d ++ h) ≡ e ++ h
      same_list f d h e is = sym (append_assoc f d h) ∙ ap (λ z. z ++ h) (sym is)

module _ (T : Type 0) (k : QueueShape) where
  not_yet : (w n : ℕ) → n ≤ w → is_registered {T = T} w (registrations n) ≡ false
  not_yet w zero le = refl
  not_yet w (suc n) le =
      ap (λ b. b || is_registered {T = T} w (registrations n)) (ne_eqb n w (λ e. omega arith)) ∙ not_yet w n (omega arith)

  is_known : (w n : ℕ) → w < n → is_registered {T = T} w (registrations n) ≡ true
  is_known w zero lt = absurd (omega arith)
  is_known w (suc n) lt =
      dite (ℕ_discrete n w) (λ e. ap (λ b. b || is_registered {T = T} w (registrations n)) (eq-eqb n w e))
      (λ ne. ap (λ b. b || is_registered {T = T} w (registrations n)) (ne_eqb n w ne) ∙ is_known w n (omega arith))

  no_part : (w n : ℕ) → accepted {T = T} w (registrations n) ≡ []
  no_part w zero = refl
  no_part w (suc n) = none_more (accepted {T = T} w (registrations n)) ∙ no_part w n

  none_left : (w n : ℕ) → left {T = T} w (registrations n) ≡ []
  none_left w zero = refl
  none_left w (suc n) = none_more (left {T = T} w (registrations n)) ∙ none_left w n

  none_done : (w n : ℕ) → has_completed {T = T} w (registrations n) ≡ false
  none_done w zero = refl
  none_done w (suc n) = none_done w n

  registrations_legal : (n : ℕ) → n ≤ k.writers → IsLegal {T = T} k (registrations n)
  registrations_legal zero le = tt
  registrations_legal (suc n) le =
      (((let g : n < k.writers = omega arith in g), not_yet n n (le_refl n)), registrations_legal n (omega arith))

  abbrev h₀ : History T
  h₀ = registrations k.writers

  abbrev seats₀ : View T
  seats₀ = all_seats k

  pub opening_shows : IsShown k (opened {T = T} k) (state_of h₀)
  opening_shows = let n : ℕ = k.writers in record {
    registered = λ w near. is_known w n near;
    heads = λ w near. ap length (none_left w n) ∙ sym (zeros (2 * k.writers + k.writers * k.per_writer) (head_at k w));
    writers = λ j v e. ⊎_elim (λ (x : get_elem? [] j ≡ some v). absurd (maybe.some-ne-none v (sym x)))
        (λ (x : seats₀ ≡ v). subst (λ u. Each (WriterShows (state_of h₀)) u.writers) x
        (each_row (WriterShows (state_of h₀)) (fresh_writer k) 0 n (λ i _. (sym (no_part i n), sym (none_done i n))))) (at_snoc [] seats₀ v j e);
    readers = λ j v e. ⊎_elim (λ (x : get_elem? [] j ≡ some v). absurd (maybe.some-ne-none v (sym x)))
        (λ (x : seats₀ ≡ v). subst (λ u. Each (ReaderShows (state_of h₀)) u.readers) x
        (each_row (ReaderShows (state_of h₀)) (fresh_reader k) 0 k.readers (λ i _. tt))) (at_snoc [] seats₀ v j e);
  }

pub step_law : (T : Type 0) → StepLaw T
step_law T k s s' e r move = (kept k s s' r e move, λ h legal shows. moved k s s' r e move h legal shows)

pub steps_law : (T : Type 0) → StepsLaw T
steps_law T k s e steps =
    all_moved k (opened k) s e steps (opening_rule k) (registrations k.writers) (registrations_legal T k k.writers (le_refl k.writers)) (opening_shows T k)
