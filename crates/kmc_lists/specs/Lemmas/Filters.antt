-- A filter that keeps no item, or every one.
use Rattle.std.proofs.Common.{◌≡◌, Bool, true, false, cond, List, [], ◌∷◌, refl, ap, ◌∙◌}
use Rattle.std.specs.List.{filter, AllByRecursion}

module _ {X : Type 0} (t : X → Bool) where
  pub filter_none : (xs : List X) → AllByRecursion (λ x. t x ≡ false) xs → filter t xs ≡ []
  filter_none [] h = refl
  filter_none (x ∷ xs) h = ap (λ b. cond b (x ∷ filter t xs) (filter t xs)) h.0 ∙ filter_none xs h.1

  pub filter_every : (xs : List X) → AllByRecursion (λ x. t x ≡ true) xs → filter t xs ≡ xs
  filter_every [] h = refl
  filter_every (x ∷ xs) h = ap (λ b. cond b (x ∷ filter t xs) (filter t xs)) h.0 ∙ ap (λ (l : List X). x ∷ l) (filter_every xs h.1)
