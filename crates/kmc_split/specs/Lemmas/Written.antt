-- What holds of the values that a loop has written.
use Rattle.std.proofs.Common.{ℕ, zero, suc, ◌+◌, ◌<◌, List, [], ◌∷◌, length, get_or, set, arith}

-- what holds of each value before place j, and of the value that is put there
pub set_more : (P : ℕ → ℕ → Type 0) (out : List ℕ) (j v : ℕ) → j < length out → P j v → ((i : ℕ) → i < j → P i (get_or out i 0)) → (i : ℕ)
    → i < j + 1 → P i (get_or (set out j v) i 0)
set_more P [] j v inside here before i h = absurd (omega arith)
set_more P (x ∷ out) zero v inside here before zero h = here
set_more P (x ∷ out) zero v inside here before (suc i) h = absurd (omega arith)
set_more P (x ∷ out) (suc j) v inside here before zero h = before zero (omega arith)
set_more P (x ∷ out) (suc j) v inside here before (suc i) h =
    set_more (λ (i x : ℕ). P (suc i) x) out j v (omega arith) here (λ i k. before (suc i) (omega arith)) i (omega arith)
