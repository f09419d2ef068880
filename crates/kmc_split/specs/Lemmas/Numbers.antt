-- The numbers of a list: of what is read from it, and of what is written to it.
use Rattle.std.proofs.Common.{◌≡◌, ℕ, ◌+◌, ◌<◌, List, length, map, get_or, set, slice_index, sym, ap, subst, ◌∙◌, arith}
use Rattle.std.proofs.lemmas.List.{get_or-map, get_or-set_other, length-map, map-set}
use Rattle.kmc_split.specs.Lemmas.Written.{set_more}

-- what is read
pub read_is : {X : Type 0} (f : X → ℕ) (xs : List X) (i : ℕ) (x : X) → i < length xs → x ≡ get_or xs i x → f x ≡ slice_index (map f xs) i
read_is f xs i x inside is = ap f is ∙ sym (get_or-map f xs i x 0 inside)

-- what holds of each number before place j, and of the number that is put there
pub set_one_more : {X : Type 0} (f : X → ℕ) (P : ℕ → ℕ → Type 0) (xs : List X) (j : ℕ) (x : X) → j < length xs → P j (f x)
    → ((i : ℕ) → i < j → P i (slice_index (map f xs) i)) → (i : ℕ) → i < j + 1 → P i (slice_index (map f (set xs j x)) i)
set_one_more f P xs j x inside here before i less =
    subst (λ (ns : List ℕ). P i (slice_index ns i)) (sym (map-set f xs j x))
    (set_more P (map f xs) j (f x) (omega (arith, inside, length-map xs f)) here before i less)

-- and behind place j nothing changes
pub set_behind : {X : Type 0} (f : X → ℕ) (xs : List X) (j i : ℕ) (x : X) → j < i → slice_index (map f (set xs j x)) i ≡ slice_index (map f xs) i
set_behind f xs j i x behind = ap (λ (ns : List ℕ). slice_index ns i) (map-set f xs j x)
    ∙ get_or-set_other (map f xs) j i (f x) 0 (λ e. absurd (omega arith))
