-- What stays of the rule when one lane and one seat move.
use Rattle.std.proofs.Common.{◌≡◌, ℕ, ◌%◌, ◌<◌, ◌≤◌, ◌≢◌, Bool, true, List, length, get_or, set, refl, sym, ap, ◌∙◌, le_trans, arith}
use mathlib.Core.Option.{some}
use mathlib.Core.Option as maybe
use lib.ListN.{get_elem?}
use Rattle.std.specs.Prelude.{Option}
use Rattle.atomic_table.specs.Table.{State}
use Rattle.kmc_partqueue.specs.declared.views.Reading.{Reading}
use Rattle.kmc_partcore.specs.declared.event.Received.{Received}
use Rattle.kmc_partqueue.specs.declared.views.Ending.{Ending}
use Rattle.kmc_partqueue.specs.declared.views.View.{View}
use Rattle.kmc_partcore.specs.declared.shape.QueueShape.{QueueShape}
use Rattle.kmc_partqueue.specs.Counts.{total_of, once_below}
use Rattle.kmc_partqueue.specs.Lane.{reading, Cell, Lane, LaneOk}
use Rattle.kmc_partqueue.specs.Rule.{head_at, end_at, slot_at, mark_at, entries, writers_of, readers_of, ReaderOk, GotOk, EndOk, ViewOk, LanesRule}
use Rattle.kmc_partqueue.specs.Lemmas.Sums.{put, at_put, total_set, total_two, each_map, views_stay}
use Rattle.kmc_partqueue.proofs.OneLane.{Longer, lane_of, lane_stays}

abbrev pub St : Type 0 → Type 0
St T = State (Option T) (View T)

abbrev pub heads_of : QueueShape → List ℕ → ℕ → ℕ
heads_of k ws w = get_or ws (head_at k w) 0

module _ {T : Type 0} (f : View T → ℕ) (s : St T) (id : ℕ) (v : View T) where
  -- a sum stays where one seat changes that counts as much
  pub same_total : (v' : View T) → get_elem? s.views id ≡ some v → f v' ≡ f v → total_of f (set s.views id v') ≡ total_of f s.views
  same_total v' at same = let t = total_set f s.views id v v' at in omega (arith, t, same)

  -- what one seat has, and all seats have once, no other seat has
  pub alone_with : get_elem? s.views id ≡ some v → f v ≡ 1 → total_of f s.views ≡ 1 → (j : ℕ) (u : View T) → j ≢ id
      → get_elem? s.views j ≡ some u → f u ≡ 0
  alone_with at one all j u n e = let t = total_two f s.views j id u v n e at in omega (arith, t, one, all)

module _ {T : Type 0} (k : QueueShape) where
  -- the slots in the hand of the reader r stay
  abbrev pub Hands : (ℕ → Lane T) → (ℕ → Lane T) → ℕ → Type 0
  Hands lanes lanes' r =
      (w n : ℕ) → (lanes w).cells (n % k.per_writer) ≡ (n, reading r) → (lanes' w).cells (n % k.per_writer) ≡ (n, reading r)

  module _ (lanes lanes' : ℕ → Lane T) (heads heads' : ℕ → ℕ) where
    -- heads and lists grow, and a lane at its end stays
    pub record Grows : Type 0 where
      pub head : (w : ℕ) → w < k.writers → heads w ≤ heads' w
      pub long : (w : ℕ) → length (lanes w).sent ≤ length (lanes' w).sent
      pub more : (w : ℕ) → Longer (lanes w).sent (lanes' w).sent
      pub last : (w : ℕ) → w < k.writers → (lanes w).done ≡ true → length (lanes w).sent ≡ heads w
          → ((lanes' w).done ≡ true) × (length (lanes' w).sent ≡ length (lanes w).sent) × (heads' w ≡ heads w)

    shown_stays : Grows → (e : Received T) → GotOk k lanes heads e → GotOk k lanes' heads' e
    shown_stays g e p =
        record { known = p.known; taken = (let a = g.head e.writer p.known in let b = p.taken in omega arith); put = g.more e.writer e.number e.item p.put }

    ended_stays : Grows → (e : Ending) → EndOk k lanes heads e → EndOk k lanes' heads' e
    ended_stays g e p =
        let l = g.last e.writer p.known p.done (p.sent ∙ sym p.taken) in
        record { known = p.known; done = l.0; sent = l.1 ∙ p.sent; taken = l.2 ∙ p.taken }

    pub reader_stays : Grows → (b : Reading T) → (b.held ≡ true → Hands lanes lanes' b.number)
        → ReaderOk k lanes heads b → ReaderOk k lanes' heads' b
    reader_stays g b hands p = record {
      known = p.known;
      writers = p.writers;
      per_writer = p.per_writer;
      lane = p.lane;
      head = le_trans p.head (g.head b.lane p.lane);
      ready = λ e. (let a = p.ready e in let l = g.long b.lane in omega arith);
      shown = each_map (GotOk k lanes heads) (GotOk k lanes' heads') (shown_stays g) b.got p.shown;
      rises = p.rises;
      ends = each_map (EndOk k lanes heads) (EndOk k lanes' heads') (ended_stays g) b.ends p.ends;
      held = λ e. let h = p.held e in (hands e b.lane b.head h.0, h.1);
    }

  -- where the slot of a lane that changes is in no reader's hand
  pub hands_put : (lanes : ℕ → Lane T) (w₀ i : ℕ) (sent' : List T) (held' done' : Bool) (cell' : Cell) (r : ℕ)
      → ((lanes w₀).cells i).1 ≢ reading r
      → Hands lanes (put lanes w₀ (lane_of sent' held' done' (put (lanes w₀).cells i cell'))) r
  hands_put lanes w₀ i sent' held' done' cell' r apart w n e = let l' = lane_of sent' held' done' (put (lanes w₀).cells i cell') in
      at_put lanes w₀ l' (λ m l. m ≡ w → l.cells (n % k.per_writer) ≡ (n, reading r)) w
      (λ is. at_put (lanes w₀).cells i cell' (λ m x. m ≡ n % k.per_writer → x ≡ (n, reading r)) (n % k.per_writer)
      (λ at. absurd (apart (ap (λ (x : Cell). x.1) (ap (λ (z : ℕ). (lanes w₀).cells z) at ∙ ap (λ (z : ℕ). (lanes z).cells (n % k.per_writer)) is
      ∙ e)))) (λ _ _. ap (λ (z : ℕ). (lanes z).cells (n % k.per_writer)) is ∙ e) refl)
      (λ _ _. e) refl

  -- a step by the seat id on the lane w₀
  pub rule_moves : (s : St T) (r : LanesRule k s) (id : ℕ) (v v' : View T) (w₀ : ℕ) (l' : Lane T) (ws' : List ℕ) (homes' : List (maybe.Option (Option T)))
      → get_elem? s.views id ≡ some v → length ws' ≡ length s.words → length homes' ≡ length s.homes
      → LaneOk k.per_writer l' (get_or ws' (head_at k w₀) 0) (get_or ws' (end_at k w₀) 0) (λ i. get_or ws' (mark_at k w₀ i) 0)
      (λ i. get_elem? homes' (slot_at k w₀ i))
      → ((w : ℕ) → w < k.writers → w ≢ w₀ → (get_or ws' (head_at k w) 0 ≡ get_or s.words (head_at k w) 0)
      × (get_or ws' (end_at k w) 0 ≡ get_or s.words (end_at k w) 0)
      × ((i : ℕ) → i < k.per_writer → get_or ws' (mark_at k w i) 0 ≡ get_or s.words (mark_at k w i) 0)
      × ((i : ℕ) → i < k.per_writer → get_elem? homes' (slot_at k w i) ≡ get_elem? s.homes (slot_at k w i)))
      → ViewOk k (put r.lanes w₀ l') (heads_of k ws') v'
      → ((j : ℕ) (u : View T) → j ≢ id → get_elem? s.views j ≡ some u → ViewOk k (put r.lanes w₀ l') (heads_of k ws') u)
      → ((w : ℕ) → writers_of w v' ≡ writers_of w v) → ((w : ℕ) → readers_of w v' ≡ readers_of w v)
      → ((w n : ℕ) → w < k.writers → total_of (entries w n) (set s.views id v') ≡ once_below n (get_or ws' (head_at k w) 0))
      → LanesRule k record { words = ws'; homes = homes'; views = set s.views id v' }
  rule_moves s r id v v' w₀ l' ws' homes' at wide slots here other mine others ws rs once = record {
    lanes = put r.lanes w₀ l';
    some_room = r.some_room;
    some_writer = r.some_writer;
    wide = wide ∙ r.wide;
    slots = slots ∙ r.slots;
    each_lane =
        λ w near. at_put r.lanes w₀ l' (λ m l. LaneOk k.per_writer l (get_or ws' (head_at k m) 0) (get_or ws' (end_at k m) 0)
        (λ i. get_or ws' (mark_at k m i) 0) (λ i. get_elem? homes' (slot_at k m i))) w here
        (λ n. let o = other w near n in lane_stays k.per_writer r.some_room (r.lanes w) (get_or s.words (head_at k w) 0)
        (get_or s.words (end_at k w) 0) (λ i. get_or s.words (mark_at k w i) 0) (λ i. get_elem? s.homes (slot_at k w i)) (r.each_lane w near)
        (get_or ws' (head_at k w) 0) (get_or ws' (end_at k w) 0) (λ i. get_or ws' (mark_at k w i) 0)
        (λ i. get_elem? homes' (slot_at k w i)) o.0 o.1 o.2 o.3);
    each_seat = views_stay (λ j u. ViewOk k (put r.lanes w₀ l') (heads_of k ws') u) s.views id v' mine others;
    one_writer = λ w near. let t = total_set (writers_of w) s.views id v v' at in let e = ws w in let o = r.one_writer w near in omega arith;
    one_reader = λ w near. let t = total_set (readers_of w) s.views id v v' at in let e = rs w in let o = r.one_reader w near in omega arith;
    taken_once = once;
  }

  -- other seats with the same facts and sums
  pub reseated : (s : St T) (r : LanesRule k s) (vs : List (View T))
      → ((j : ℕ) (v : View T) → get_elem? vs j ≡ some v → ViewOk k r.lanes (heads_of k s.words) v)
      → ((w : ℕ) → total_of (writers_of w) vs ≡ total_of (writers_of w) s.views)
      → ((w : ℕ) → total_of (readers_of w) vs ≡ total_of (readers_of w) s.views)
      → ((w n : ℕ) → total_of (entries w n) vs ≡ total_of (entries w n) s.views)
      → LanesRule k record { words = s.words; homes = s.homes; views = vs }
  reseated s r vs seats ws rs es = record {
    lanes = r.lanes;
    each_seat = seats;
    one_writer = λ w near. ws w ∙ r.one_writer w near;
    one_reader = λ w near. rs w ∙ r.one_reader w near;
    taken_once = λ w n near. es w n ∙ r.taken_once w n near;
    some_room = r.some_room;
    some_writer = r.some_writer;
    wide = r.wide;
    slots = r.slots;
    each_lane = r.each_lane;
  }

  -- a step by the seat id that changes its view alone
  pub reviewed : (s : St T) (r : LanesRule k s) (id : ℕ) (v v' : View T) → get_elem? s.views id ≡ some v
      → ViewOk k r.lanes (heads_of k s.words) v'
      → ((w : ℕ) → writers_of w v' ≡ writers_of w v) → ((w : ℕ) → readers_of w v' ≡ readers_of w v)
      → ((w n : ℕ) → entries w n v' ≡ entries w n v)
      → LanesRule k record { words = s.words; homes = s.homes; views = set s.views id v' }
  reviewed s r id v v' at mine ws rs es = reseated s r (set s.views id v')
      (views_stay (λ j u. ViewOk k r.lanes (heads_of k s.words) u) s.views id v' mine (λ j u _ e. r.each_seat j u e))
      (λ w. same_total (writers_of w) s id v v' at (ws w)) (λ w. same_total (readers_of w) s id v v' at (rs w))
      (λ w n. same_total (entries w n) s id v v' at (es w n))
