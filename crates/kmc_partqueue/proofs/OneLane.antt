-- What the steps do to one lane.
use Rattle.std.proofs.Common.{lt_of_not-le, ◌≡◌, ℕ, suc, ◌+◌, ◌*◌, ◌/◌, ◌%◌, ◌<◌, ◌≤◌, ◌≢◌, Bool, true, false, List, [], ◌∷◌, ◌++◌, length, refl, sym, ap, ◌∙◌, subst, le_refl, mod-lt, length-append, arith}
use mathlib.Core.Option.{none, some}
use mathlib.Core.Option as maybe
use mathlib.Core.Logic.{dite}
use native.Mathlib.Decide.{dec_le}
use native.Mathlib.Nat.{add-mod_right}
use lib.ListN.{get_elem?}
use Rattle.std.specs.Prelude.{Some, None}
use Rattle.atomic_table.proofs.Lists.{at_longer, at_last}
use Rattle.kmc_partqueue.specs.Lane.{Phase, free, writing, full, reading, Cell, Home, Lane, InPhase, CellOk, LaneOk, end_word}
use Rattle.kmc_partqueue.specs.Lemmas.Sums.{put, at_put, put_here}
use Rattle.kmc_partqueue.proofs.Turns.{one_number, near_one, next_use, next_slot}

abbrev pub up : Phase → ℕ
up free = 0
up writing = 0
up full = 1
up (reading r) = 1

at_most_one : (ph : Phase) → up ph ≤ 1
at_most_one free = omega arith
at_most_one writing = omega arith
at_most_one full = omega arith
at_most_one (reading r) = omega arith

-- the reader in whose hand a slot is
abbrev pub holder : Phase → ℕ
holder (reading q) = q
holder _ = 0

abbrev pub lane_of : {T : Type 0} → List T → Bool → Bool → (ℕ → Cell) → Lane T
lane_of s h d cs = record { sent = s; held = h; done = d; cells = cs }

module _ {T : Type 0} where
  abbrev pub Longer : List T → List T → Type 0
  Longer log log' = (p : ℕ) (x : T) → get_elem? log p ≡ some x → get_elem? log' p ≡ some x

  module _ (c : ℕ) where
    -- a mark shows the use and whether a part was put
    shows : (head : ℕ) (sent : List T) (mark : ℕ) (home : maybe.Option (Home T)) (n : ℕ) (ph : Phase)
        → InPhase c head sent mark home n ph → mark ≡ 2 * (n / c) + up ph
    shows head sent mark home n free k = let e : mark ≡ 2 * (n / c) = k.0 in omega arith
    shows head sent mark home n writing k = let e : mark ≡ 2 * (n / c) = k.0 in omega arith
    shows head sent mark home n full k = k.0
    shows head sent mark home n (reading r) k = k.0

    phase_stays : (head head' : ℕ) (sent sent' : List T) (mark mark' : ℕ) (home home' : maybe.Option (Home T)) (n : ℕ)
        → head ≤ head' → length sent ≤ length sent' → Longer sent sent'
        → (length sent ≤ n → length sent' ≤ n) → (head ≤ n → head' ≤ n) → (n ≡ length sent → n ≡ length sent')
        → mark' ≡ mark → home' ≡ home → (ph : Phase) → InPhase c head sent mark home n ph
        → InPhase c head' sent' mark' home' n ph
    phase_stays head head' sent sent' mark mark' home home' n a b more lq hq wq em eh free k = (em ∙ k.0, lq k.1, eh ∙ k.2)
    phase_stays head head' sent sent' mark mark' home home' n a b more lq hq wq em eh writing k = (em ∙ k.0, wq k.1, eh ∙ k.2)
    phase_stays head head' sent sent' mark mark' home home' n a b more lq hq wq em eh full k =
        (em ∙ k.0, hq k.1, (let l : n < length sent = k.2 in omega arith), (k.3.0, more n k.3.0 k.3.1, eh ∙ k.3.2))
    phase_stays head head' sent sent' mark mark' home home' n a b more lq hq wq em eh (reading r) k =
        (em ∙ k.0, (let l : n < head = k.1 in omega arith), eh ∙ k.2)

    -- a slot that a step does not touch
    cell_stays : (head head' : ℕ) (sent sent' : List T) (held held' : Bool) (i mark mark' : ℕ) (home home' : maybe.Option (Home T)) (cell : Cell)
        → head ≤ head' → length sent ≤ length sent' → Longer sent sent'
        → ((q : ℕ) → q % c ≡ i → length sent ≤ q → length sent' ≤ q) → ((q : ℕ) → q % c ≡ i → head ≤ q → head' ≤ q)
        → ((q : ℕ) → q % c ≡ i → q ≡ length sent → q ≡ length sent')
        → (cell.0 ≡ length sent → held ≡ true → held' ≡ true) → mark' ≡ mark → home' ≡ home
        → CellOk c head sent held i mark home cell → CellOk c head' sent' held' i mark' home' cell
    cell_stays head head' sent sent' held held' i mark mark' home home' cell a b more lq hq wq keep em eh k =
        let n : ℕ = cell.0 in let l : n < head + c = k.freed in record {
          lies = k.lies;
          freed = omega arith;
          waits = lq (n + c) (add-mod_right n c ∙ k.lies) k.waits;
          phase = phase_stays head head' sent sent' mark mark' home home' n a b more (lq n k.lies) (hq n k.lies) (wq n k.lies) em eh cell.1 k.phase;
          in_hand = λ is. keep (let p = subst (InPhase c head sent mark home n) is k.phase in p.1) (k.in_hand is);
        }

    module _ (pos : 0 < c) (l : Lane T) (head ending : ℕ) (mark : ℕ → ℕ) (home : ℕ → maybe.Option (Home T)) (ok : LaneOk c l head ending mark home) where
      abbrev len : ℕ
      len = length l.sent

      -- a step elsewhere
      pub lane_stays : (head' ending' : ℕ) (mark' : ℕ → ℕ) (home' : ℕ → maybe.Option (Home T)) → head' ≡ head
          → ending' ≡ ending → ((i : ℕ) → i < c → mark' i ≡ mark i) → ((i : ℕ) → i < c → home' i ≡ home i)
          → LaneOk c l head' ending' mark' home'
      lane_stays head' ending' mark' home' eh ee em eo = record {
        ended = ee ∙ ok.ended;
        behind = subst (λ (z : ℕ). z ≤ len) (sym eh) ok.behind;
        within = subst (λ (z : ℕ). len ≤ z + c) (sym eh) ok.within;
        limit = ok.limit;
        each_cell = λ i near. subst (λ (z : ℕ × ℕ × maybe.Option (Home T)). CellOk c z.0 l.sent l.held i z.1 z.2 (l.cells i))
            (λ j. (sym eh j, sym (em i near) j, sym (eo i near) j)) (ok.each_cell i near);
        writes = ok.writes;
      }

      abbrev place : ℕ → ℕ
      place n = n % c

      cell_of : (n : ℕ) → CellOk c head l.sent l.held (n % c) (mark (n % c)) (home (n % c)) (l.cells (n % c))
      cell_of n = ok.each_cell (n % c) (mod-lt n pos)

      -- the mark of the next part's slot shows that it is free
      pub free_found : l.held ≡ false → mark (len % c) ≡ 2 * (len / c)
          → (l.cells (len % c) ≡ (len, free)) × (home (len % c) ≡ some (some None))
      free_found empty found =
          let i : ℕ = len % c in let k = cell_of len in let q : ℕ = (l.cells i).0 in let u : ℕ = up (l.cells i).1 in
          let e = shows head l.sent (mark i) (home i) q (l.cells i).1 k.phase in let lt = at_most_one (l.cells i).1 in
          let x : ℕ = q / c in let y : ℕ = len / c in let e' : 2 * y ≡ 2 * x + u = sym found ∙ e in
          let is : q ≡ len = one_number c len q k.lies (let g : x ≡ y = omega arith in g) in
          let z : u ≡ 0 = omega arith in go (l.cells i) refl is z k
        where
          go : (cell : Cell) → l.cells (len % c) ≡ cell → cell.0 ≡ len → up cell.1 ≡ 0
              → CellOk c head l.sent l.held (len % c) (mark (len % c)) (home (len % c)) cell
              → (l.cells (len % c) ≡ (len, free)) × (home (len % c) ≡ some (some None))
          go (n, free) at is z k = (at ∙ (λ j. (is j, free)), k.phase.2)
          go (n, writing) at is z k = absurd (clash (k.in_hand refl))
            where
              clash : l.held ≡ true → ⊥
              clash h = let e : true ≡ false = sym h ∙ empty in cc
          go (n, full) at is z k = absurd (omega arith)
          go (n, reading r) at is z k = absurd (omega arith)

      -- a mark that does not show it free is that of a later turn
      pub late : mark (len % c) ≢ 2 * (len / c) → c ≤ len
      late other =
          dite (dec_le c len) (λ le. le) (λ far. let i : ℕ = len % c in let k = cell_of len in let q : ℕ = (l.cells i).0 in
          let lt : len < c = lt_of_not-le far in let f : q < head + c = k.freed in let b : head ≤ len = ok.behind in
          let is : q ≡ len = near_one c len q (omega arith) (omega arith) k.lies in absurd (go (l.cells i) is k.phase))
        where
          go : (cell : Cell) → cell.0 ≡ len → InPhase c head l.sent (mark (len % c)) (home (len % c)) cell.0 cell.1 → ⊥
          go (n, free) is k = other (k.0 ∙ ap (λ (z : ℕ). 2 * (z / c)) is)
          go (n, writing) is k = other (k.0 ∙ ap (λ (z : ℕ). 2 * (z / c)) is)
          go (n, full) is k = let lt : n < len = k.2 in absurd (omega arith)
          go (n, reading r) is k = let lt : n < head = k.1 in let b : head ≤ len = ok.behind in absurd (omega arith)

      -- a step on the slot i
      lane_moves : (sent' : List T) (held' done' : Bool) (head' ending' : ℕ) (mark' : ℕ → ℕ) (home' : ℕ → maybe.Option (Home T)) (i : ℕ) (cell' : Cell)
          → ending' ≡ end_word done' (length sent') → head ≤ head' → len ≤ length sent' → Longer l.sent sent'
          → head' ≤ length sent' → length sent' ≤ head' + c → length sent' ≤ 4294967295
          → ((q : ℕ) → q % c ≢ i → len ≤ q → length sent' ≤ q) → ((q : ℕ) → q % c ≢ i → head ≤ q → head' ≤ q)
          → ((q : ℕ) → q % c ≢ i → q ≡ len → q ≡ length sent') → ((q : ℕ) → q % c ≢ i → q ≡ len → l.held ≡ true → held' ≡ true)
          → ((j : ℕ) → j < c → j ≢ i → mark' j ≡ mark j) → ((j : ℕ) → j < c → j ≢ i → home' j ≡ home j)
          → CellOk c head' sent' held' i (mark' i) (home' i) cell'
          → (held' ≡ true → put l.cells i cell' (length sent' % c) ≡ (length sent', writing))
          → LaneOk c (lane_of sent' held' done' (put l.cells i cell')) head' ending' mark' home'
      lane_moves sent' held' done' head' ending' mark' home' i cell' ended a b more behind within limit lq hq wq keep em eo here writes = record {
        ended = ended;
        behind = behind;
        within = within;
        limit = limit;
        each_cell = λ j near. at_put l.cells i cell' (λ m x. CellOk c head' sent' held' m (mark' m) (home' m) x) j here (λ other.
            cell_stays head head' l.sent sent' l.held held' j (mark j) (mark' j) (home j) (home' j) (l.cells j) a b more
            (λ q e. lq q (λ is. other (sym e ∙ is))) (λ q e. hq q (λ is. other (sym e ∙ is))) (λ q e. wq q (λ is. other (sym e ∙ is)))
            (λ is. keep (l.cells j).0 (λ at. other (sym (ok.each_cell j near).lies ∙ at)) is) (em j near other) (eo j near other) (ok.each_cell j near));
        writes = writes;
      }

      -- a free slot is claimed
      pub lane_holds : (home' : ℕ → maybe.Option (Home T)) → l.cells (len % c) ≡ (len, free)
          → mark (len % c) ≡ 2 * (len / c) → home' (len % c) ≡ some none
          → ((j : ℕ) → j < c → j ≢ len % c → home' j ≡ home j)
          → LaneOk c (lane_of l.sent true l.done (put l.cells (len % c) (len, writing))) head ending mark home'
      lane_holds home' at found out eo =
          let i : ℕ = len % c in let k = subst (CellOk c head l.sent l.held i (mark i) (home i)) at (cell_of len) in
          lane_moves l.sent true l.done head ending mark home' i (len, writing) ok.ended (le_refl head) (le_refl len)
          (λ p x e. e) ok.behind ok.within ok.limit (λ q n e. e) (λ q n e. e) (λ q n e. e) (λ q n e h. refl) (λ j _ _. refl) eo
          record { lies = refl; freed = k.freed; waits = k.waits; phase = (found, refl, out); in_hand = λ _. refl } (λ _. put_here l.cells i (len, writing))

      -- a part is published
      pub lane_puts : (x : T) (mark' : ℕ → ℕ) (home' : ℕ → maybe.Option (Home T)) → l.held ≡ true → l.done ≡ false
          → len < 4294967295 → mark' (len % c) ≡ 2 * (len / c) + 1 → home' (len % c) ≡ some (some (Some x))
          → ((j : ℕ) → j < c → j ≢ len % c → mark' j ≡ mark j) → ((j : ℕ) → j < c → j ≢ len % c → home' j ≡ home j)
          → LaneOk c (lane_of (l.sent ++ x ∷ []) false l.done (put l.cells (len % c) (len, full))) head ending mark' home'
      lane_puts x mark' home' held going small em₀ eo₀ em eo =
          let i : ℕ = len % c in
          let k = subst (CellOk c head l.sent l.held i (mark i) (home i)) (ok.writes held) (cell_of len) in
          let long : length (l.sent ++ x ∷ []) ≡ suc len = length-append l.sent (x ∷ []) ∙ (omega arith) in
          let n : ℕ = len in let n' : ℕ = length (l.sent ++ x ∷ []) in let long' : n' ≡ suc n = long in
          let f : n < head + c = k.freed in let b : head ≤ n = ok.behind in
          lane_moves (l.sent ++ x ∷ []) false l.done head ending mark' home' i (len, full)
          (subst (λ (d : Bool). ending ≡ end_word d len → ending ≡ end_word d n') (sym going) (λ e. e) ok.ended) (le_refl head) (omega arith)
          (λ p y. at_longer l.sent (x ∷ []) p y)
          (omega arith) (omega arith) (omega arith) (λ q other le. let ne : q ≢ n = λ e. other (ap (λ (z : ℕ). z % c) e) in omega arith)
          (λ q _ le. le) (λ q other e. absurd (other (ap (λ (z : ℕ). z % c) e))) (λ q other e _. absurd (other (ap (λ (z : ℕ). z % c) e))) em eo
          record {
            lies = refl;
            freed = k.freed;
            waits = (let g : n' ≤ n + c = omega arith in g);
            phase = (em₀, ok.behind, (let g : n < n' = omega arith in g), (x, at_last l.sent x len refl, eo₀));
            in_hand = λ e. let e' : full
                ≡ writing = e in cc;
          } (λ e. let e' : false ≡ true = e in cc)

      -- the lane is closed
      pub lane_ends : (ending' : ℕ) → ending' ≡ suc len → LaneOk c (lane_of l.sent l.held true l.cells) head ending' mark home
      lane_ends ending' e =
          record { ended = e; behind = ok.behind; within = ok.within; limit = ok.limit; each_cell = ok.each_cell; writes = ok.writes }

      -- the mark of the slot of the number h shows that the part was put
      pub ready_found : (h : ℕ) → h ≤ head → mark (h % c) ≡ 2 * (h / c) + 1 → h < len
      ready_found h le found =
          let i : ℕ = h % c in let k = cell_of h in let q : ℕ = (l.cells i).0 in let u : ℕ = up (l.cells i).1 in
          let e = shows head l.sent (mark i) (home i) q (l.cells i).1 k.phase in let lt = at_most_one (l.cells i).1 in
          let x : ℕ = q / c in let y : ℕ = h / c in let e' : 2 * y + 1 ≡ 2 * x + u = sym found ∙ e in
          let is : q ≡ h = one_number c h q k.lies (let g : x ≡ y = omega arith in g) in
          let z : u ≡ 1 = omega arith in go (l.cells i) is z k.phase
        where
          go : (cell : Cell) → cell.0 ≡ h → up cell.1 ≡ 1 → InPhase c head l.sent (mark (h % c)) (home (h % c)) cell.0 cell.1 → h < len
          go (n, free) is z k = absurd (omega arith)
          go (n, writing) is z k = absurd (omega arith)
          go (n, full) is z k = let lt : n < len = k.2 in omega arith
          go (n, reading r) is z k = let lt : n < head = k.1 in let b : head ≤ len = ok.behind in omega arith

      abbrev pub IsFull : ℕ → Type 0
      IsFull h =
          (l.cells (h % c) ≡ (h, full)) × (mark (h % c) ≡ 2 * (h / c) + 1) × ((x : T) × (get_elem? l.sent h ≡ some x) × (home (h % c) ≡ some (some (Some x))))

      -- a part from the head on is at home
      pub full_found : (h : ℕ) → head ≤ h → h < len → IsFull h
      full_found h at lt =
          let i : ℕ = h % c in let k = cell_of h in let q : ℕ = (l.cells i).0 in let f : q < head + c = k.freed in
          let w : len ≤ q + c = k.waits in
          let is : q ≡ h = near_one c h q (omega arith) (omega arith) k.lies in go (l.cells i) refl is k.phase
        where
          go : (cell : Cell) → l.cells (h % c) ≡ cell → cell.0 ≡ h
              → InPhase c head l.sent (mark (h % c)) (home (h % c)) cell.0 cell.1 → IsFull h
          go (n, free) e is k = let b : len ≤ n = k.1 in absurd (omega arith)
          go (n, writing) e is k = let b : n ≡ len = k.1 in absurd (omega arith)
          go (n, full) e is k =
              subst (λ (z : ℕ). (l.cells (h % c) ≡ (z, full)) × (mark (h % c) ≡ 2 * (z / c) + 1)
              × ((x : T) × (get_elem? l.sent z ≡ some x) × (home (h % c) ≡ some (some (Some x))))) is (e, k.0, k.3)
          go (n, reading r) e is k = let b : n < head = k.1 in absurd (omega arith)

      pub lane_takes : (h r head' : ℕ) (home' : ℕ → maybe.Option (Home T)) → head ≡ h → h < len → head' ≡ h + 1
          → home' (h % c) ≡ some none → ((j : ℕ) → j < c → j ≢ h % c → home' j ≡ home j)
          → LaneOk c (lane_of l.sent l.held l.done (put l.cells (h % c) (h, reading r))) head' ending mark home'
      lane_takes h r head' home' at lt next out eo =
          let i : ℕ = h % c in let fl = full_found h (omega arith) lt in
          let k = subst (CellOk c head l.sent l.held i (mark i) (home i)) fl.0 (cell_of h) in
          let w : len ≤ head + c = ok.within in let f : h < head + c = k.freed in let n : ℕ = len in
          lane_moves l.sent l.held l.done head' ending mark home' i (h, reading r) ok.ended (omega arith) (le_refl len) (λ p x e. e) (omega arith)
          (omega arith) ok.limit (λ q n e. e)
          (λ q other le. let ne : q ≢ h = λ e. other (ap (λ (z : ℕ). z % c) e) in omega arith) (λ q n e. e) (λ q n e h. h) (λ j _ _. refl) eo
          record {
            lies = refl;
            freed = (let g : h < head' + c = omega arith in g);
            waits = k.waits;
            phase = (fl.1, (let g : h < head' = omega arith in g), out);
            in_hand = λ e. let e' : reading r ≡ writing = e in cc;
          }
          (λ e. at_put l.cells i (h, reading r) (λ m x. m ≡ len % c → x ≡ (len, writing)) (len % c) (λ is. clash e is fl.0) (λ _ _. ok.writes e) refl)
        where
          clash : {A : Type 0} → l.held ≡ true → h % c ≡ len % c → l.cells (h % c) ≡ (h, full) → A
          clash e is fl = let p : full ≡ writing = ap (λ (x : Cell). x.1) (sym fl ∙ ap l.cells is ∙ ok.writes e) in cc

      -- the slot is released
      pub lane_frees : (h r : ℕ) (mark' : ℕ → ℕ) (home' : ℕ → maybe.Option (Home T)) → l.cells (h % c) ≡ (h, reading r)
          → mark' (h % c) ≡ 2 * (h / c) + 2 → home' (h % c) ≡ some (some None)
          → ((j : ℕ) → j < c → j ≢ h % c → mark' j ≡ mark j) → ((j : ℕ) → j < c → j ≢ h % c → home' j ≡ home j)
          → LaneOk c (lane_of l.sent l.held l.done (put l.cells (h % c) (h + c, free))) head ending mark' home'
      lane_frees h r mark' home' at em₀ eo₀ em eo =
          let i : ℕ = h % c in let k = subst (CellOk c head l.sent l.held i (mark i) (home i)) at (cell_of h) in
          let u = next_use c pos h in let a : ℕ = (h + c) / c in let b : ℕ = h / c in let u' : a ≡ b + 1 = u in
          let below : h < head = k.phase.1 in
          lane_moves l.sent l.held l.done head ending mark' home' i (h + c, free) ok.ended (le_refl head) (le_refl len)
          (λ p x e. e) ok.behind ok.within ok.limit (λ q n e. e) (λ q n e. e) (λ q n e. e) (λ q n e h. h) em eo
          record {
            lies = next_slot c pos h;
            freed = (let g : h + c < head + c = omega arith in g);
            waits = (let w : len ≤ h + c = k.waits in let g : len ≤ h + c + c = omega arith in g);
            phase =
                (em₀ ∙ (let g : 2 * b + 2 ≡ 2 * a = omega arith in g), k.waits, eo₀);
            in_hand = λ e. let e' : free ≡ writing = e in cc;
          }
          (λ e. at_put l.cells i (h + c, free) (λ m x. m ≡ len % c → x ≡ (len, writing)) (len % c) (λ is. clash e is) (λ _ _. ok.writes e) refl)
        where
          clash : {A : Type 0} → l.held ≡ true → h % c ≡ len % c → A
          clash e is = let p : reading r ≡ writing = ap (λ (x : Cell). x.1) (sym at ∙ ap l.cells is ∙ ok.writes e) in cc
