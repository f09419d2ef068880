-- Whether a word of a list passes a test, one word after the other.
use Rattle.std.proofs.Common.{◌≡◌, ℕ, ◌+◌, ◌<◌, Bool, List, [], ◌∷◌, ◌||◌, true, false, length, map, take, get_or, refl, sym, ap, ◌∙◌}
use Rattle.std.specs.List.{list_any}
use Rattle.std.proofs.lemmas.List.{take_more, map-append}
use Rattle.std.proofs.lemmas.List.Folds.{list_any-append}

or_false : (b : Bool) → (b || false) ≡ b
or_false true = refl
or_false false = refl

module _ {X Y : Type 0} (f : X → Y) (p : Y → Bool) where
  pub found_more : (xs : List X) (i : ℕ) (d : X) → i < length xs → list_any p (map f (take (i + 1) xs)) ≡ (list_any p (map f (take i xs))
      || p (f (get_or xs i d)))
  found_more xs i d inside =
      ap (λ l. list_any p (map f l)) (take_more xs i d inside)
      ∙ ap (list_any p) (map-append f (take i xs) (get_or xs i d ∷ []))
      ∙ list_any-append p (map f (take i xs)) (f (get_or xs i d) ∷ [])
      ∙ ap (λ b. list_any p (map f (take i xs)) || b) (or_false (p (f (get_or xs i d))))

  -- one that was found stays
  pub found_kept : (xs : List X) (i : ℕ) (d : X) (b : Bool) → i < length xs → b ≡ true → b ≡ list_any p (map f (take i xs)) → b
      ≡ list_any p (map f (take (i + 1) xs))
  found_kept xs i d b inside is before =
      is ∙ ap (λ a. a || p (f (get_or xs i d))) (sym is ∙ before) ∙ sym (found_more xs i d inside)

  -- where none was found, the next one says
  pub found_next : (xs : List X) (i : ℕ) (d : X) (b : Bool) → i < length xs → b ≡ false → b ≡ list_any p (map f (take i xs)) → p
      (f (get_or xs i d)) ≡ list_any p (map f (take (i + 1) xs))
  found_next xs i d b inside is before =
      ap (λ a. a || p (f (get_or xs i d))) (sym is ∙ before) ∙ sym (found_more xs i d inside)
