-- The totals that a seat keeps, and the counts that are made of them.
use Rattle.std.proofs.Common.{◌≡◌, ℕ, zero, suc, ◌+◌, ◌<◌, ◌≤◌, List, [], ◌∷◌, length, take, get_or, set, refl, sym, ap, ◌∙◌, arith}
use mathlib.Core.Logic.{dite}
use native.Mathlib.Decide.{ℕ_discrete}
use Rattle.std.specs.Prelude.{Option, Some, None, slice_get}
use Rattle.kmc_partqueue.specs.Seats.{AreKeptTotals}
use Rattle.kmc_partqueue.specs.Lemmas.Sums.{get_at}
use Rattle.kmc_partqueue.proofs.ReaderCalls.{set_same, set_rest}

take_at : {A : Type 0} (n : ℕ) (l : List A) (i : ℕ) → i < n → slice_get (take n l) i ≡ slice_get l i
take_at zero l i lt = absurd (omega arith)
take_at (suc n) [] i lt = refl
take_at (suc n) (x ∷ l) zero lt = refl
take_at (suc n) (x ∷ l) (suc i) lt = take_at n l i (omega arith)

take_long : {A : Type 0} (n : ℕ) (l : List A) → n ≤ length l → length (take n l) ≡ n
take_long zero l le = refl
take_long (suc n) [] le = absurd (omega arith)
take_long (suc n) (x ∷ l) le = let r = take_long n l (omega arith) in omega arith

module _ (totals : List (Option ℕ)) where
  -- the counts of the lanes below n are the totals
  abbrev pub CountsBelow : ℕ → List ℕ → Type 0
  CountsBelow n counts = (w : ℕ) → w < n → (t : ℕ) × (slice_get totals w ≡ Some (Some t)) × (slice_get counts w ≡ Some t)

  pub counts_more : (n t : ℕ) (counts : List ℕ) → CountsBelow n counts → n < length counts
      → slice_get totals n ≡ Some (Some t) → CountsBelow (n + 1) (set counts n t)
  counts_more n t counts below inside is w lt = dite (ℕ_discrete w n)
      (λ e. (t, ap (slice_get totals) e ∙ is, ap (slice_get (set counts n t)) e ∙ set_same counts n t inside))
      (λ ne. let b = below w (omega arith) in (b.0, b.1, set_rest counts n w t ne ∙ b.2))

  pub counts_first : (n m : ℕ) (counts : List ℕ) → CountsBelow m counts → n ≤ m → n ≤ length counts → AreKeptTotals n totals (take n counts)
  counts_first n m counts below le long =
      (take_long n counts long, λ w lt. let b = below w (omega arith) in (b.0, b.1, take_at n counts w lt ∙ b.2))

pub not_ended : {A : Type 0} (l : List (Option ℕ)) (i t : ℕ) → i < length l → get_or l i None ≡ None → slice_get l i ≡ Some (Some t) → A
not_ended {A} l i t lt none has = let e : Some None ≡ Some (Some t) = ap Some (sym none) ∙ sym (get_at l i None lt) ∙ has in cc

pub at_within : {A : Type 0} (l : List A) (i : ℕ) (x : A) → slice_get l i ≡ Some x → i < length l
at_within [] i x e = cc
at_within (y ∷ l) zero x e = omega arith
at_within (y ∷ l) (suc i) x e = let r = at_within l i x e in omega arith
