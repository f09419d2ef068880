-- What a search from the front of a list finds.
use Rattle.std.proofs.Common.{◌≡◌, ◌∙◌, ◌+◌, ◌<◌, ℕ, zero, suc, Bool, true, false, cond, List, [], ◌∷◌, Option, Some, None, ap, arith, drop, length, refl}
use Rattle.std.specs.List.{slice_index_or}
use Rattle.std.specs.Prelude.{find}

module _ {X : Type 0} (p : X → Bool) where
  next : (xs : List X) (i : ℕ) (d : X) → i < length xs → find p (drop i xs)
      ≡ cond (p (slice_index_or xs i d)) (Some (slice_index_or xs i d)) (find p (drop (suc i) xs))
  next [] i d lt = absurd (omega arith)
  next (x ∷ xs) zero d lt = refl
  next (x ∷ xs) (suc i) d lt = next xs i d (omega arith)

  -- at an item the search ends or goes on
  pub meets : (xs : List X) (i : ℕ) (d : X) (b : Bool) → i < length xs → p (slice_index_or xs i d) ≡ b
      → find p (drop i xs) ≡ cond b (Some (slice_index_or xs i d)) (find p (drop (i + 1) xs))
  meets xs i d b lt is =
      let one : suc i ≡ i + 1 = omega arith in
      next xs i d lt ∙ ap (λ t. cond t (Some (slice_index_or xs i d)) (find p (drop (suc i) xs))) is
      ∙ ap (λ k. cond b (Some (slice_index_or xs i d)) (find p (drop k xs))) one

  past : (b : Bool) (x : X) (later : Option X) → cond b (Some x) later ≡ None → (b ≡ false) × (later ≡ None)
  past true x later e = absurd (cc)
  past false x later e = (refl, e)

  -- a search that finds nothing passes every item
  pub passes : (xs : List X) (i : ℕ) (d : X) → find p xs ≡ None → i < length xs → p (slice_index_or xs i d) ≡ false
  passes [] i d e lt = absurd (omega arith)
  passes (x ∷ xs) zero d e lt = (past (p x) x (find p xs) e).0
  passes (x ∷ xs) (suc i) d e lt = passes xs i d (past (p x) x (find p xs) e).1 (omega arith)
