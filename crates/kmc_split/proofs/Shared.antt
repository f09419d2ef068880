-- The least value of windows that share the place of the least of all.
use Rattle.std.proofs.Common.{◌≡◌, ℕ, ◌+◌, ◌-◌, ◌<◌, ◌≤◌, arith}
use Rattle.kmc_split.specs.Minima.{low}
use Rattle.kmc_split.specs.Lemmas.Lowest.{low_le, low_is}

-- all windows of w of n values have the places from n - w to before w
pub shared_low : (at : ℕ → ℕ) (w n i : ℕ) → n < w + w → low at (w - (n - w)) (n - w) ≡ low at n 0 → i + w ≤ n → low at w i ≡ low at n 0
shared_low at w n i near same inside =
    let found = low_is at (w - (n - w)) (n - w) (omega arith) in
    let here = low_is at w i (omega arith) in
    let most : low at w i ≤ at found.0 = low_le at w i found.0 (omega (arith, found.1)) (omega (arith, found.2)) in
    let least : low at n 0 ≤ at here.0 = low_le at n 0 here.0 (omega arith) (omega (arith, here.2)) in
    omega (arith, found.3, here.3)
