-- The least value of some places in a row.
use Rattle.std.specs.Prelude.{ℕ, ◌+◌, min}
use Rattle.std.proofs.Common.{zero, suc}

-- the least of w values from place i on, of which there is at least one
abbrev pub low : (ℕ → ℕ) → ℕ → ℕ → ℕ
low at zero i = at i
low at (suc zero) i = at i
low at (suc (suc w)) i = min (at i) (low at (suc w) (i + 1))
