-- Counts that their bytes do not hold.
use Rattle.std.specs.Prelude.{ℕ, ◌^◌, ◌≤◌, List, Contains}

-- a pair of these has a count that so many bytes do not hold
pub record HasGreat {A : Type 0} (counter : ℕ) (pairs : List (A × ℕ)) : Type 0 where
  pub pair : A × ℕ
  pub stands : Contains pairs pair
  pub great : 256 ^ counter ≤ pair.1
