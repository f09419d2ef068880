-- What a writer's calls owe and learn.
use Rattle.std.proofs.Common.{◌≡◌, ℕ, suc, ◌+◌, ◌*◌, ◌/◌, ◌%◌, ◌<◌, ◌≤◌, ◌≢◌, Bool, true, false, List, [], ◌∷◌, ◌++◌, length, refl, sym, ap, ◌∙◌, subst}
use mathlib.Core.Option.{none}
use Rattle.std.specs.Prelude.{Option, Some, None}
use Rattle.atomic_table.specs.Table.{step, Allows}
use Rattle.kmc_partqueue.specs.declared.views.Writing.{Writing}
use Rattle.kmc_partcore.specs.declared.shape.QueueShape.{QueueShape}
use Rattle.kmc_partqueue.specs.Reached.{IsReached}
use Rattle.kmc_partqueue.specs.Rule.{end_at, mark_at}
use Rattle.kmc_partqueue.specs.Dealing.{one_of_writers}
use Rattle.kmc_partqueue.specs.Plays.{Seated, next_slot_of, holding, completed, claimed_free_slot, published_part, closed_lane}
use Rattle.kmc_partqueue.specs.Seats.{open_writer, sent_of, AtRest}
use Rattle.kmc_partqueue.proofs.Allowed.{claims_free_slot, publishes_part, closes_lane}

module _ {T : Type 0} where
  abbrev pub with_slot : ℕ → ℕ → List T → ℕ → Option T → Seated T
  with_slot number per_writer s slot x = (one_of_writers (holding (open_writer number per_writer s false)), (slot, x) ∷ [])

  abbrev pub resting : ℕ → ℕ → List T → Bool → Seated T
  resting number per_writer s done = (one_of_writers (open_writer number per_writer s done), [])

  pub rests : (me : Seated T) (number per_writer count : ℕ) (s : List T) → me ≡ resting number per_writer s false
      → length s ≡ count → count ≤ 4294967295 → AtRest me number per_writer count
  rests me number per_writer count s e l le =
      let same : sent_of me.0 ≡ s = ap (λ (m : Seated T). sent_of m.0) e in
      (e ∙ (λ j. resting number per_writer (sym same j) false), ap length same ∙ l, le)

  module _ (me me' : Seated T) (number per_writer count : ℕ) (at : AtRest me number per_writer count) where
    pub held_after : (r slot : ℕ) → claimed_free_slot (step 0 0 0 0 none) me r me' → r ≡ 2 * (count / per_writer)
        → slot ≡ number * per_writer + count % per_writer → me' ≡ with_slot number per_writer (sent_of me.0) slot None
    held_after r slot told hit is =
        let s : List T = sent_of me.0 in let a : Writing T = open_writer number per_writer s false in
        let x = (told a (ap (λ (m : Seated T). m.0) at.0)).0 (hit ∙ ap (λ (z : ℕ). 2 * (z / per_writer)) (sym at.1)) in
        let old : me.1 ≡ [] = ap (λ (m : Seated T). m.1) at.0 in
        let slot' : next_slot_of a ≡ slot = ap (λ (z : ℕ). number * per_writer + z % per_writer) at.1 ∙ sym is in
        x ∙ (λ j. (one_of_writers (holding (open_writer number per_writer s false)), (slot' j, None) ∷ old j))

    pub full_after : (r : ℕ) → claimed_free_slot (step 0 0 0 0 none) me r me' → r ≢ 2 * (count / per_writer)
        → (me' ≡ me) × (per_writer ≤ count)
    full_after r told miss =
        let a : Writing T = open_writer number per_writer (sent_of me.0) false in
        let x = (told a (ap (λ (m : Seated T). m.0) at.0)).1 (λ e. miss (e ∙ ap (λ (z : ℕ). 2 * (z / per_writer)) at.1)) in
        (x.0, subst (λ (z : ℕ). per_writer ≤ z) at.1 x.1)

    pub ended_after : (r : ℕ) → closed_lane (step 0 0 0 0 none) me r me' → me' ≡ resting number per_writer (sent_of me.0) true
    ended_after r told =
        let a : Writing T = open_writer number per_writer (sent_of me.0) false in
        let old : me.1 ≡ [] = ap (λ (m : Seated T). m.1) at.0 in
        told a (ap (λ (m : Seated T). m.0) at.0) ∙ (λ j. (one_of_writers (completed a), old j))

  pub sent_after : (me me' : Seated T) (number per_writer r slot count : ℕ) (s : List T) (x : T)
      → me ≡ with_slot number per_writer s slot (Some x) → length s ≡ count
      → slot ≡ number * per_writer + count % per_writer → published_part (step 0 0 0 0 none) me r me'
      → me' ≡ resting number per_writer (s ++ x ∷ []) false
  sent_after me me' number per_writer r slot count s x e l is told = let a : Writing T = holding (open_writer number per_writer s false) in
      told a x [] (e ∙ (λ j. (one_of_writers a, ((is ∙ ap (λ (z : ℕ). number * per_writer + z % per_writer) (sym l)) j, Some x) ∷ [])))

module _ {T : Type 0} (k : QueueShape) where
  pub free_call : (n id : ℕ) (me : Seated T) (number per_writer count i : ℕ) → AtRest me number per_writer count
      → i ≡ mark_at k number (count % k.per_writer)
      → Allows (IsReached k) n id me i (λ y. y) (claimed_free_slot (step n i 0 0 none) me)
  free_call n id me number per_writer count i at is =
      let s : List T = sent_of me.0 in
      subst (λ (m : Seated T). Allows (IsReached k) n id m i (λ y. y) (claimed_free_slot (step n i 0 0 none) m)) (sym at.0)
      (claims_free_slot k n id (open_writer number per_writer s false) [] i (is ∙ ap (λ (z : ℕ). mark_at k number (z % k.per_writer)) (sym at.1)) refl)

  pub send_call : (n id : ℕ) (me : Seated T) (number per_writer count slot i new : ℕ) (s : List T) (x : T)
      → me ≡ with_slot number per_writer s slot (Some x) → length s ≡ count → count < 4294967295
      → slot ≡ number * per_writer + count % per_writer → i ≡ mark_at k number (count % k.per_writer)
      → new ≡ 2 * (count / k.per_writer) + 1
      → Allows (IsReached k) n id me i (λ _. new) (λ _. published_part (step n i new 0 none) me new)
  send_call n id me number per_writer count slot i new s x e l small is index marks = let a : Writing T = holding (open_writer number per_writer s false) in
      subst (λ (m : Seated T). Allows (IsReached k) n id m i (λ _. new) (λ _. published_part (step n i new 0 none) m new))
      (sym (e ∙ (λ j. (one_of_writers a, ((is ∙ ap (λ (z : ℕ). number * per_writer + z % per_writer) (sym l)) j, Some x) ∷ []))))
      (publishes_part k n id a x [] i new (index ∙ ap (λ (z : ℕ). mark_at k number (z % k.per_writer)) (sym l))
      (marks ∙ ap (λ (z : ℕ). 2 * (z / k.per_writer) + 1) (sym l)) refl refl (subst (λ (z : ℕ). z < 4294967295) (sym l) small))

  pub end_call : (n id : ℕ) (me : Seated T) (number per_writer count i new : ℕ) → AtRest me number per_writer count
      → i ≡ end_at k number → new ≡ suc count
      → Allows (IsReached k) n id me i (λ _. new) (λ _. closed_lane (step n i new 0 none) me new)
  end_call n id me number per_writer count i new at index is =
      let s : List T = sent_of me.0 in
      subst (λ (m : Seated T). Allows (IsReached k) n id m i (λ _. new) (λ _. closed_lane (step n i new 0 none) m new)) (sym at.0)
      (closes_lane k n id (open_writer number per_writer s false) [] i new index (is ∙ ap suc (sym at.1)) refl)
