-- Short words are allowed.
use Rattle.std.proofs.Common.{◌≡◌, ℕ, ◌<◌, ◌&&◌, Bool, true, false, not, nat_eq, List, [], ◌∷◌, length, refl, arith}
use Rattle.kmc_split.specs.Signature.{is_allowed}

no_head : (a b : Bool) → (a && (b && false)) ≡ false
no_head true true = refl
no_head true false = refl
no_head false b = refl

no_first : (a : Bool) → (a && false) ≡ false
no_first true = refl
no_first false = refl

-- fewer than three codes have none of the beginnings, and no AA at an index of 1 or more
pub short_is_allowed : (w : List ℕ) → length w < 3 → is_allowed w ≡ true
short_is_allowed [] h = refl
short_is_allowed (a ∷ []) h = (λ i. not (no_first (nat_eq a 0) i) && not (no_first (nat_eq a 0) i) && true)
short_is_allowed (a ∷ b ∷ []) h = (λ i. not (no_head (nat_eq a 0) (nat_eq b 0) i) && not (no_head (nat_eq a 0) (nat_eq b 1) i) && true)
short_is_allowed (a ∷ b ∷ d ∷ w) h = absurd (omega arith)
