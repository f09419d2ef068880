-- What a reader's calls owe and learn.
use Rattle.std.proofs.Common.{◌≡◌, ℕ, zero, suc, ◌+◌, ◌*◌, ◌/◌, ◌%◌, ◌<◌, ◌≤◌, ◌≢◌, eqb, true, false, List, [], ◌∷◌, ◌++◌, length, set, refl, sym, ap, ◌∙◌, subst, arith}
use mathlib.Core.Option.{none}
use mathlib.Core.Logic.{dite}
use native.Mathlib.Decide.{ℕ_discrete}
use prog.Atomic.{either}
use Rattle.std.specs.Prelude.{Option, Some, None, slice_get}
use Rattle.atomic_table.specs.Table.{Step, step, Allows}
use Rattle.kmc_partqueue.specs.declared.views.Reading.{Reading}
use Rattle.kmc_partqueue.specs.declared.views.Ending.{Ending}
use Rattle.kmc_partcore.specs.declared.shape.QueueShape.{QueueShape}
use Rattle.kmc_partqueue.specs.Counts.{Each, Among}
use Rattle.kmc_partqueue.specs.Reached.{IsReached}
use Rattle.kmc_partqueue.specs.Ends.{SawAllEnds}
use Rattle.kmc_partqueue.specs.Rule.{head_at, end_at, mark_at}
use Rattle.kmc_partqueue.specs.Dealing.{one_of_readers}
use Rattle.kmc_partqueue.specs.Plays.{Seated, seen_slot_of, looking, seeing, taking, freeing, ending, read_head, saw_published_part, claimed_part, released_slot, read_end}
use Rattle.kmc_partqueue.specs.Seats.{Between, Noted}
use Rattle.kmc_partqueue.specs.Lemmas.Sums.{each_append}
use Rattle.kmc_partqueue.proofs.Members.{among_left, among_last}
use Rattle.kmc_partqueue.proofs.Final.{each_at, inner}
use Rattle.kmc_partqueue.proofs.Allowed.{reads_head, sees_published_part, reads_end, claims_part, releases_slot}

module _ {T : Type 0} where
  abbrev pub alone : Reading T → Seated T
  alone b = (one_of_readers b, [])

  abbrev pub with_slot : Reading T → Option T → Seated T
  with_slot b x = (one_of_readers b, (seen_slot_of b, x) ∷ [])

  abbrev st₀ : Step (Option T)
  st₀ = step 0 0 0 0 none

  module _ (b : Reading T) (me me' : Seated T) where
    pub after_head : (n i w r : ℕ) → me ≡ alone b → i ≡ b.writers + w → read_head (step n i 0 0 none) me r me'
        → (me' ≡ alone (looking b w r)) × (r ≤ 4294967295)
    after_head n i w r e is told =
        let x = told b w (ap (λ (m : Seated T). m.0) e) is in
        (x.0 ∙ (λ j. (one_of_readers (looking b w r), (e j).1)), x.1)

    pub after_ready : (r : ℕ) → me ≡ alone b → saw_published_part st₀ me r me' → r ≡ 2 * (b.head / b.per_writer) + 1
        → me' ≡ alone (seeing b)
    after_ready r e told hit = (told b (ap (λ (m : Seated T). m.0) e)).0 hit ∙ (λ j. (one_of_readers (seeing b), (e j).1))

    pub after_not_ready : (r : ℕ) → me ≡ alone b → saw_published_part st₀ me r me' → r ≢ 2 * (b.head / b.per_writer) + 1 → me' ≡ alone b
    after_not_ready r e told miss = (told b (ap (λ (m : Seated T). m.0) e)).1 miss ∙ e

    pub after_take : (r : ℕ) → me ≡ alone b → claimed_part st₀ me r me' → r ≡ b.head → (x : T) × (me' ≡ with_slot (taking b x) (Some x))
    after_take r e told hit =
        let x = (told b (ap (λ (m : Seated T). m.0) e)).0 hit in
        (x.0, x.1 ∙ (λ j. (one_of_readers (taking b x.0), (seen_slot_of b, Some x.0) ∷ (e j).1)))

    pub after_miss : (r : ℕ) → me ≡ alone b → claimed_part st₀ me r me' → r ≢ b.head → me' ≡ alone b
    after_miss r e told miss = (told b (ap (λ (m : Seated T). m.0) e)).1 miss ∙ e

    pub after_end : (r : ℕ) → me ≡ alone b → read_end st₀ me r me' → r ≡ suc b.head → me' ≡ alone (ending b)
    after_end r e told hit = (told b (ap (λ (m : Seated T). m.0) e)).0 hit ∙ (λ j. (one_of_readers (ending b), (e j).1))

    pub after_no_end : (r : ℕ) → me ≡ alone b → read_end st₀ me r me' → r ≢ suc b.head → me' ≡ alone b
    after_no_end r e told miss = (told b (ap (λ (m : Seated T). m.0) e)).1 miss ∙ e

    -- the part is moved out of the slot
    pub after_out : (x y : T) (slot : ℕ) → me ≡ with_slot b (Some x) → me.1 ≡ (slot, Some y) ∷ []
        → me' ≡ (me.0, (slot, None) ∷ []) → (x ≡ y) × (me' ≡ with_slot b None)
    after_out x y slot e has now =
        let p : ℕ × Option T = (seen_slot_of b, Some x) in let q : ℕ × Option T = (slot, Some y) in
        let l : p ∷ [] ≡ q ∷ [] = sym (ap (λ (m : Seated T). m.1) e) ∙ has in let pq : p ≡ q = cc in
        let v : Some x ≡ Some y = ap (λ (z : ℕ × Option T). z.1) pq in
        let i : seen_slot_of b ≡ slot = ap (λ (z : ℕ × Option T). z.0) pq in
        ((let w : x ≡ y = cc in w), now ∙ (λ j. ((e j).0, (sym i j, None) ∷ [])))

    pub after_free : (r : ℕ) → me ≡ with_slot b None → released_slot st₀ me r me' → me' ≡ alone (freeing b)
    after_free r e told = told b [] e

module _ {T : Type 0} (k : QueueShape) (n id : ℕ) (b : Reading T) (me : Seated T) where
  pub head_call : (w i : ℕ) → me ≡ alone b → i ≡ head_at k w → b.held ≡ false → w < k.writers
      → Allows (IsReached k) n id me i (λ y. y) (read_head (step n i 0 0 none) me)
  head_call w i e is empty near =
      subst (λ (m : Seated T). Allows (IsReached k) n id m i (λ y. y) (read_head (step n i 0 0 none) m)) (sym e) (reads_head k n id b [] w i near is empty)

  pub ready_call : (i : ℕ) → me ≡ alone b → i ≡ mark_at k b.lane (b.head % k.per_writer)
      → Allows (IsReached k) n id me i (λ y. y) (saw_published_part (step n i 0 0 none) me)
  ready_call i e is =
      subst (λ (m : Seated T). Allows (IsReached k) n id m i (λ y. y) (saw_published_part (step n i 0 0 none) m)) (sym e) (sees_published_part k n id b [] i is)

  pub end_call : (i : ℕ) → me ≡ alone b → i ≡ end_at k b.lane → ¬ SawAllEnds k.writers b.ends
      → Allows (IsReached k) n id me i (λ y. y) (read_end (step n i 0 0 none) me)
  end_call i e is before =
      subst (λ (m : Seated T). Allows (IsReached k) n id m i (λ y. y) (read_end (step n i 0 0 none) m)) (sym e) (reads_end k n id b [] i is before)

  pub take_call : (i old new : ℕ) → me ≡ alone b → i ≡ head_at k b.lane → old ≡ b.head → new ≡ b.head + 1
      → b.ready ≡ true → b.held ≡ false
      → Allows (IsReached k) n id me i (λ y. either (eqb y old) new y) (claimed_part (step n i old new none) me)
  take_call i old new e is o m ready empty =
      subst (λ (x : Seated T). Allows (IsReached k) n id x i (λ y. either (eqb y old) new y) (claimed_part (step n i old new none) x)) (sym e)
      (claims_part k n id b [] i old new is o m ready empty)

  pub free_call : (i new : ℕ) → me ≡ with_slot b None → i ≡ mark_at k b.lane (b.head % k.per_writer)
      → new ≡ 2 * (b.head / k.per_writer) + 2 → b.held ≡ true
      → Allows (IsReached k) n id me i (λ _. new) (λ _. released_slot (step n i new 0 none) me new)
  free_call i new e is m held =
      subst (λ (x : Seated T). Allows (IsReached k) n id x i (λ _. new) (λ _. released_slot (step n i new 0 none) x new)) (sym e)
      (releases_slot k n id b [] i new is m held)

-- notes of a lane more
pub set_same : {A : Type 0} (l : List A) (i : ℕ) (a : A) → i < length l → slice_get (set l i a) i ≡ Some a
set_same [] i a h = absurd (omega arith)
set_same (x ∷ xs) zero a h = refl
set_same (x ∷ xs) (suc i) a h = set_same xs i a (omega arith)

pub set_rest : {A : Type 0} (l : List A) (i j : ℕ) (a : A) → j ≢ i → slice_get (set l i a) j ≡ slice_get l j
set_rest [] i j a n = refl
set_rest (x ∷ xs) zero zero a n = absurd (n refl)
set_rest (x ∷ xs) zero (suc j) a n = refl
set_rest (x ∷ xs) (suc i) zero a n = refl
set_rest (x ∷ xs) (suc i) (suc j) a n = set_rest xs i j a (λ e. n (ap suc e))

pub noted_more : (es : List Ending) (ts : List (Option ℕ)) (w t : ℕ) → Noted es ts → slice_get ts w ≡ Some None
    → w < length ts → Noted (es ++ record { writer = w; total = t } ∷ []) (set ts w (Some t))
noted_more es ts w t n new inside = record {
  kept = λ v u e. dite (ℕ_discrete v w)
      (λ is. let same : Some (Some t) ≡ Some (Some u) = sym (set_same ts w (Some t) inside) ∙ ap (slice_get (set ts w (Some t))) (sym is) ∙ e in
      let tu : t ≡ u = inner same in
      subst (λ (z : Ending). Among z (es ++ record { writer = w; total = t } ∷ [])) (λ j. record { writer = sym is j; total = tu j })
      (among_last (record { writer = w; total = t }) es))
      (λ other. among_left (record { writer = v; total = u }) es (record { writer = w; total = t } ∷ [])
      (n.kept v u (sym (set_rest ts w v (Some t) other) ∙ e)));
  all = each_append (λ (e : Ending). slice_get (set ts w (Some t)) e.writer ≡ Some (Some e.total)) es (record { writer = w; total = t } ∷ [])
      (olds es n.all) (set_same ts w (Some t) inside, tt);
}
  where
    clash : {A : Type 0} {x : ℕ} {y : Option (Option ℕ)} → y ≡ Some None → y ≡ Some (Some x) → A
    clash {A} {x} a b = let e : Some None ≡ Some (Some x) = sym a ∙ b in cc

    olds : (l : List Ending) → Each (λ (e : Ending). slice_get ts e.writer ≡ Some (Some e.total)) l
        → Each (λ (e : Ending). slice_get (set ts w (Some t)) e.writer ≡ Some (Some e.total)) l
    olds [] p = tt
    olds (e ∷ l) p =
        (dite (ℕ_discrete e.writer w) (λ is. clash (ap (slice_get ts) is ∙ new) p.0) (λ other. set_rest ts w e.writer (Some t) other ∙ p.0), olds l p.1)

-- between two calls again
pub between : {T : Type 0} (b : Reading T) (me : Seated T) (number per_writer next writers : ℕ) (totals : List (Option ℕ))
    → me ≡ alone b → b.number ≡ number → b.writers ≡ writers → b.per_writer ≡ per_writer → b.held ≡ false
    → Noted b.ends totals → length totals ≡ 16 → next < writers → writers ≤ 16
    → Between me number per_writer next writers totals
between b me number per_writer next writers totals e n ws r h t long l few =
    record { view = b; is = e; number_is = n; writers_is = ws; per_writer_is = r; empty = h; noted = t; long = long; near = l; few = few }

-- no lane is open and at its end
pub open_or_ended : {x : Option (Option ℕ)} {t : ℕ} → x ≡ Some None → x ≡ Some (Some t) → ⊥
open_or_ended {x} {t} a b = let e : Some None ≡ Some (Some t) = sym a ∙ b in cc

-- a lane that is open was not seen at its end
pub not_all_seen : (ends : List Ending) (totals : List (Option ℕ)) (n w : ℕ) → Noted ends totals
    → slice_get totals w ≡ Some None → w < n → ¬ SawAllEnds n ends
not_all_seen ends totals n w noted none_yet near all =
    let t = all w near in
    open_or_ended none_yet (each_at (λ (e : Ending). slice_get totals e.writer ≡ Some (Some e.total)) ends noted.all t.1.0 record {
      writer = w;
      total = t.0;
    } t.1.1)

-- what was noted is noted still, where one more lane was seen at its end
pub kept_more : (ts : List (Option ℕ)) (lane h w t : ℕ) → slice_get ts lane ≡ Some None → slice_get ts w ≡ Some (Some t)
    → slice_get (set ts lane (Some h)) w ≡ Some (Some t)
kept_more ts lane h w t yet is = set_rest ts lane w (Some h) (λ e. open_or_ended yet (ap (slice_get ts) (sym e) ∙ is)) ∙ is

-- an answer is not both
pub not_true : {A : Type 0} → false ≡ true → A
not_true e = cc

pub not_false : {A : Type 0} → true ≡ false → A
not_false e = cc
