-- Lines of at most so many bytes each, one behind the other.
use Rattle.std.proofs.Common.{◌≡◌, ℕ, ◌+◌, ◌*◌, ◌<◌, ◌≤◌, add-one, arith, Result, Ok, Err, sym, true≢false}
use Rattle.std.specs.Prelude.{IsOk, IsErr, OnOk, is_ok, if◌then◌else◌}
use Rattle.std.proofs.Math.Nat.{suc-mul, mul-le-mul_right}

pub lines_more : (i r end line : ℕ) → end ≤ i * r → line ≤ r → end + line ≤ (i + 1) * r
lines_more i r end line so_far short = let more : (i + 1) * r ≡ i * r + r = rw add-one (suc-mul i r) in omega (arith, more)

-- there is room for one of n lines behind those before it
pub line_fits : (i n r end line top : ℕ) → i < n → n * r ≤ top → end ≤ i * r → line ≤ r → end + line ≤ top
line_fits i n r end line top inside room so_far short =
    let next : i + 1 ≤ n = omega (arith, inside) in
    omega (arith, lines_more i r end line so_far short, mul-le-mul_right r next)

-- fewer lines have room too
pub fewer_fit : (m n r top : ℕ) → m ≤ n → n * r ≤ top → m * r ≤ top
fewer_fit m n r top few room = omega (arith, mul-le-mul_right r few)

-- a vector that was resized has so many elements
pub resized : {A B : Type 0} (r : Result A B) (n old len : ℕ) → IsOk r → len ≡ (if is_ok r then n else old) → len ≡ n
resized (Ok x) n old len ok is = is
resized (Err x) n old len ok is = absurd (true≢false (sym ok))

-- a refusal gives nothing
pub no_answer : {A E : Type 0} (r : Result A E) (P : Type 0) → IsErr r → OnOk r P
no_answer (Ok x) P is = absurd (true≢false (sym is))
no_answer (Err e) P is = tt
