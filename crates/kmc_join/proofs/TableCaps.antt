-- The cap that words ask for, by how many they are.
use Rattle.std.proofs.Common.{◌≡◌, List, [], ◌∷◌, length, map, None, refl}
use Rattle.kmc_options.specs.Words.{Word}
use Rattle.kmc_join.specs.TableWords.{table_cap}

pub cap_of_others : {T : Type 0} (f : T → Word) (xs : List T) → (length xs ≡ 3 → ⊥) → (length xs ≡ 4 → ⊥) → table_cap (map f xs) ≡ None
cap_of_others f [] three four = refl
cap_of_others f (x ∷ []) three four = refl
cap_of_others f (x ∷ y ∷ []) three four = refl
cap_of_others f (x ∷ y ∷ z ∷ []) three four = absurd (three refl)
cap_of_others f (x ∷ y ∷ z ∷ w ∷ []) three four = absurd (four refl)
cap_of_others f (x ∷ y ∷ z ∷ w ∷ v ∷ xs) three four = refl
