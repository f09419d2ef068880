-- How the rule starts, and how seats are cut and joined.
use Rattle.std.proofs.Common.{◌≡◌, ℕ, zero, suc, ◌+◌, ◌*◌, ◌/◌, ◌<◌, ◌≤◌, true, false, List, [], ◌∷◌, ◌++◌, map, length, get_or, set, replicate, refl, sym, ap, ◌∙◌, subst, ⊎_elim, mod-eq_of_lt, zero-le, zero-mul, arith}
use mathlib.Core.Option.{none, some}
use mathlib.Core.Option as maybe
use lib.ListN.{get_elem?, length-map, length-replicate}
use lib.Arith.{digits_div}
use Rattle.std.specs.Prelude.{Option, None}
use Rattle.atomic_table.specs.Table.{Splits, Joins, opening}
use Rattle.atomic_table.proofs.Lists.{at_snoc, set_else}
use Rattle.kmc_partqueue.specs.declared.views.Writing.{Writing}
use Rattle.kmc_partqueue.specs.declared.views.Reading.{Reading}
use Rattle.kmc_partqueue.specs.declared.views.View.{View}
use Rattle.kmc_partcore.specs.declared.shape.QueueShape.{QueueShape}
use Rattle.kmc_partqueue.specs.Counts.{Each, total_of, same, once_below}
use Rattle.kmc_partqueue.specs.Lane.{free, Lane}
use Rattle.kmc_partqueue.specs.Rule.{head_at, end_at, slot_at, mark_at, got_once, entries, writers_of, readers_of, WriterOk, ReaderOk, ViewOk, LanesRule}
use Rattle.kmc_partqueue.specs.Dealing.{row_from, fresh_writer, fresh_reader, all_seats, first_of, rest_of, no_writer, its_writer, no_reader, its_reader, both, spent}
use Rattle.kmc_partqueue.specs.Lemmas.Sums.{total_set, total_append, each_append, views_stay, below_none}
use Rattle.kmc_partqueue.specs.Lemmas.Numbered.{each_row, row_length, row_at, once_from}
use Rattle.kmc_partqueue.proofs.Turns.{lane_within}
use Rattle.kmc_partqueue.proofs.OneLane.{lane_of}
use Rattle.kmc_partqueue.proofs.Frame.{St, heads_of, reseated}

module _ {A : Type 0} where
  first_rest : (l : List A) → first_of l ++ rest_of l ≡ l
  first_rest [] = refl
  first_rest (x ∷ xs) = refl

  pub each_first : (P : A → Type 0) (l : List A) → Each P l → Each P (first_of l)
  each_first P [] p = tt
  each_first P (x ∷ xs) p = (p.0, tt)

  pub each_rest : (P : A → Type 0) (l : List A) → Each P l → Each P (rest_of l)
  each_rest P [] p = tt
  each_rest P (x ∷ xs) p = p.1

  row_once : (num : A → ℕ) (f : ℕ → A) → ((j : ℕ) → num (f j) ≡ j) → (w i n : ℕ) → i ≤ w → w < i + n
      → total_of (λ (a : A). same (num a) w) (row_from f i n) ≡ 1
  row_once num f is w i n a l =
      let long = row_length f i n in
      once_from num w i (row_from f i n) (λ j d lt. ap num (row_at f i n j d (omega arith)) ∙ is (i + j)) a (omega arith)

  row_zero : (g : A → ℕ) (f : ℕ → A) → ((j : ℕ) → g (f j) ≡ 0) → (i n : ℕ) → total_of g (row_from f i n) ≡ 0
  row_zero g f is i zero = refl
  row_zero g f is i (suc n) = let r = row_zero g f is (suc i) n in let z = is i in omega arith

pub zeros : (n i : ℕ) → ◌≡◌ {A = ℕ} (get_or (replicate n 0) i 0) 0
zeros zero i = refl
zeros (suc n) zero = refl
zeros (suc n) (suc i) = zeros n i

blank : {T : Type 0} (n i : ℕ) → i < n → get_elem? (map some (replicate {A = Option T} n None)) i ≡ some (some None)
blank zero i near = absurd (omega arith)
blank (suc n) zero near = refl
blank (suc n) (suc i) near = blank n i (omega arith)

module _ {T : Type 0} (k : QueueShape) where
  -- other seats with the same facts
  dealt_anew : (s : St T) (r : LanesRule k s) (vs : List (View T))
      → ((j : ℕ) (v : View T) → get_elem? vs j ≡ some v → ViewOk k r.lanes (heads_of k s.words) v)
      → ((f : View T → ℕ) → ((v w : View T) → f (both v w) ≡ f v + f w) → f spent ≡ 0 → total_of f vs ≡ total_of f s.views)
      → LanesRule k record { words = s.words; homes = s.homes; views = vs }
  dealt_anew s r vs seats sums = reseated k s r vs seats
      (λ w. sums (writers_of w) (λ v u. let t = total_append (λ (a : Writing T). same a.number w) u.writers v.writers in let x = writers_of w
      (both v u) in omega arith) refl)
      (λ w. sums (readers_of w) (λ v u. let t = total_append (λ (b : Reading T). same b.number w) u.readers v.readers in omega arith) refl)
      (λ w n. sums (entries w n) (λ v u. let t = total_append (got_once w n) u.readers v.readers in omega arith) refl)

  -- v is cut into left and right
  cuts : (id : ℕ) (v left right : View T)
      → ((lanes : ℕ → Lane T) (heads : ℕ → ℕ) → ViewOk k lanes heads v → ViewOk k lanes heads left × ViewOk k lanes heads right)
      → ((f : View T → ℕ) → ((v w : View T) → f (both v w) ≡ f v + f w) → f spent ≡ 0 → f left + f right ≡ f v)
      → Splits (LanesRule k) id v left right
  cuts id v left right facts parts s r at =
      let ok = facts r.lanes (heads_of k s.words) (r.each_seat id v at) in
      dealt_anew s r (set s.views id left ++ right ∷ [])
      (λ j u e. ⊎_elim (views_stay (λ _ x. ViewOk k r.lanes (heads_of k s.words) x) s.views id left ok.0 (λ j' u' _ e'. r.each_seat j' u' e') j u)
      (λ (is : right ≡ u). subst (ViewOk k r.lanes (heads_of k s.words)) is ok.1) (at_snoc (set s.views id left) right u j e))
      (λ f add none. let a = total_append f (set s.views id left) (right ∷ []) in let t = total_set f s.views id v left at in
      let p = parts f add none in omega arith)

  pub splits_writer : (id : ℕ) (v : View T) → Splits (LanesRule k) id v (no_writer v) (its_writer v)
  splits_writer id v =
      cuts id v (no_writer v) (its_writer v) (λ lanes heads ok. (
        (each_rest (WriterOk k lanes heads) v.writers ok.0, ok.1),
        (each_first (WriterOk k lanes heads) v.writers ok.0, tt),
      ))
      (λ f add none. let a = add (no_writer v) (its_writer v) in let e : f (both (no_writer v) (its_writer v)) ≡ f v = ap f
      (λ j. record { writers = first_rest v.writers j; readers = v.readers }) in omega arith)

  pub splits_reader : (id : ℕ) (v : View T) → Splits (LanesRule k) id v (no_reader v) (its_reader v)
  splits_reader id v =
      cuts id v (no_reader v) (its_reader v) (λ lanes heads ok. (
        (ok.0, each_rest (ReaderOk k lanes heads) v.readers ok.1),
        (tt, each_first (ReaderOk k lanes heads) v.readers ok.1),
      ))
      (λ f add none. let a = add (no_reader v) (its_reader v) in let e : f (both (no_reader v) (its_reader v)) ≡ f v = ap f
      (λ j. record { writers = v.writers; readers = first_rest v.readers j }) in omega arith)

  pub joins : (id : ℕ) (v : View T) (other : ℕ) (w : View T) → Joins (LanesRule k) id v other w (both v w) spent
  joins id v other w s r at ne at' = let vs : List (View T) = set s.views id (both v w) in let hs = heads_of k s.words in
      let a = r.each_seat id v at in let b = r.each_seat other w (sym (set_else s.views id other (both v w) ne) ∙ at') in
      let ab : ViewOk k r.lanes hs (both v w) = (
        each_append (WriterOk k r.lanes hs) w.writers v.writers b.0 a.0,
        each_append
            (ReaderOk k r.lanes hs) w.readers v.readers b.1 a.1,
      ) in
      dealt_anew s r (set vs other spent)
      (views_stay (λ _ x. ViewOk k r.lanes hs x) vs other spent (tt, tt)
      (λ j u _ e. views_stay (λ _ x. ViewOk k r.lanes hs x) s.views id (both v w) ab (λ j' u' _ e'. r.each_seat j' u' e') j u e))
      (λ f add none. let t = total_set f s.views id v (both v w) at in let t' = total_set f vs other w spent at' in let p = add v w in omega arith)

  pub starts : (ws : List ℕ) → 0 < k.per_writer → 0 < k.writers → length ws ≡ 2 * k.writers + k.writers * k.per_writer
      → ((i : ℕ) → get_or ws i 0 ≡ 0)
      → LanesRule k (opening ws (replicate (k.writers * k.per_writer) None) (all_seats {T = T} k))
  starts ws per_writer some_writer long zeros =
      let n : ℕ = k.writers * k.per_writer in let xs : List (Option T) = replicate n None in
      let v : View T = all_seats k in let l : Lane T = lane_of [] false false (λ i. (i, free)) in record {
        lanes = λ _. l;
        some_room = per_writer;
        some_writer = some_writer;
        wide = long;
        slots = length-map xs some ∙ length-replicate n None;
        each_lane = λ w near. record {
          ended = zeros (end_at k w);
          behind = subst (λ (z : ℕ). z ≤ 0) (sym (zeros (head_at k w))) zero-le;
          within = zero-le;
          limit = zero-le;
          each_cell = λ i lt. let none_yet = digits_div 0 {m = k.per_writer} {r = i} lt in record {
            lies = mod-eq_of_lt lt;
            freed = (let h : ℕ = get_or ws (head_at k w) 0 in let g : i < h + k.per_writer = omega arith in g);
            waits = zero-le;
            phase = (
              zeros (mark_at k w i) ∙ ap (λ (z : ℕ). 2 * z) (sym none_yet ∙ ap (λ (z : ℕ). z / k.per_writer)
                  (let p : ℕ = 0 * k.per_writer in let e : p ≡ 0 = zero-mul k.per_writer in let g : p + i ≡ i = omega arith in g)),
              zero-le,
              blank n
                  (slot_at k w i) (lane_within k.per_writer w k.writers i near lt),
            );
            in_hand = λ e. (let e' : free ≡ Rattle.kmc_partqueue.specs.Lane.writing = e in cc);
          };
          writes = λ e. (let e' : false ≡ true = e in cc);
        };
        each_seat = λ j u e. ⊎_elim (λ (x : get_elem? [] j ≡ some u). absurd (maybe.some-ne-none u (sym x)))
            (λ (x : v ≡ u). subst (ViewOk k (λ _. l) (heads_of k ws)) x (
              each_row (WriterOk k (λ _. l) (heads_of k ws)) (fresh_writer k) 0 k.writers
                  (λ i lt. record { known = (let g : i < k.writers = omega arith in g); per_writer = refl; sent = refl; held = refl; done = refl }),
              each_row (ReaderOk k (λ _. l) (heads_of k ws)) (fresh_reader k) 0 k.readers
                  (λ i lt. record {
                    known = (let g : i < k.readers = omega arith in g);
                    writers = refl;
                    per_writer = refl;
                    lane = some_writer;
                    head = zero-le;
                    ready = λ e. (let e' : false ≡ true = e in cc);
                    shown = tt;
                    rises = tt;
                    ends = tt;
                    held =
                        λ e. (let e' : false ≡ true = e in cc);
                  }),
            )) (at_snoc [] v u j e);
        one_writer = λ w near. let r = row_once {A = Writing T} (λ a. a.number) (fresh_writer k) (λ _. refl) w 0 k.writers zero-le (omega arith) in omega arith;
        one_reader = λ w near. let r = row_once {A = Reading T} (λ a. a.number) (fresh_reader k) (λ _. refl) w 0 k.readers zero-le (omega arith) in omega arith;
        taken_once = λ w m near. let r = row_zero (got_once w m) (fresh_reader {T = T} k) (λ _. refl) 0 k.readers in let z : once_below m
            (get_or ws (head_at k w) 0) ≡ 0 = ap (once_below m) (zeros (head_at k w)) ∙ below_none m 0 zero-le in omega arith;
      }
