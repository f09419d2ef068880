use Rattle.std.proofs.Common.{◌≡◌, ℕ, ◌+◌, ◌*◌, ◌/◌, ◌^◌, ◌<◌, ◌≤◌, nat_eq, IsTrue, sym, ap, subst, arith}
use Rattle.std.proofs.Math.Nat.{div-eq_of_lt, lt-div-mul-add}
use Rattle.std.proofs.lemmas.Bool.Decides.{nat_tests}
use Rattle.std.proofs.lemmas.Nat.{pow_pos}
use Rattle.kmc_database.specs.Lemmas.Bytes.{bits_of_bytes}
use Rattle.kmc_database.proofs.row.holds_count.Goals as goal

is_none : (n d : ℕ) → 1 ≤ d → IsTrue (nat_eq (n / d) 0) → n < d
is_none n d some test =
    let none : n / d ≡ 0 = grind (arith, nat_tests) in
    let above : n < n / d * d + d = lt-div-mul-add some in
    let times : n / d * d ≡ 0 * d = ap (λ q. q * d) none in
    omega (arith, above, times)

is_small : (n d : ℕ) → n < d → IsTrue (nat_eq (n / d) 0)
is_small n d less =
    let none : n / d ≡ 0 = div-eq_of_lt less in
    grind (arith, nat_tests)

pub returns : goal.returns
returns c =
    let n = c.args.layout.now.counter in
    let some : 1 ≤ 2 ^ (8 * n) = pow_pos (8 * n) in (
      λ test. subst (λ d. c.args.count < d) (bits_of_bytes n) (is_none c.args.count (2 ^ (8 * n)) some test),
      λ less. is_small c.args.count (2 ^ (8 * n)) (subst (λ d. c.args.count < d) (sym (bits_of_bytes n)) less),
    )
