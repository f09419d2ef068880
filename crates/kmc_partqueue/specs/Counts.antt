-- Facts of each member of a list, members, and sums over a list.
use Rattle.std.specs.Prelude.{ℕ, ◌+◌, cond, ltb, List, [], ◌∷◌, Some, slice_get, ◌≡◌}
use Rattle.std.proofs.Common.{eqb}

abbrev pub Each : {A : Type 0} → (A → Type 0) → List A → Type 0
Each P [] = Unit {0}
Each P (x ∷ xs) = P x × Each P xs

-- x is a member
abbrev pub Among : {A : Type 0} → A → List A → Type 0
Among {A} x l = (i : ℕ) × (slice_get l i ≡ Some x)

abbrev pub total_of : {A : Type 0} → (A → ℕ) → List A → ℕ
total_of f [] = 0
total_of f (x ∷ xs) = f x + total_of f xs

-- 1 where they are equal, and else 0
abbrev pub same : ℕ → ℕ → ℕ
same x y = cond (eqb x y) 1 0

-- 1 where x is below n, and else 0
abbrev pub once_below : ℕ → ℕ → ℕ
once_below x n = cond (ltb x n) 1 0
