-- How many first parts there are.
use Rattle.std.proofs.Common.{◌≡◌, ℕ, ◌+◌, ◌-◌, ◌*◌, ◌/◌, ◌%◌, ◌^◌, ◌≤◌, ap, subst, ◌∙◌, arith, mod-eq_of_lt}
use Rattle.std.proofs.Math.Nat.{div-mul-le_self}
use Rattle.std.proofs.lemmas.Nat.{le-div}
use Rattle.kmc_base.specs.Lemmas.Powers.{pow_quad, pow_up}
use Rattle.kmc_database.specs.Layout.{IsLayout}
use Rattle.kmc_database.specs.declared.layout.Layout.{Layout}

-- a first part has at most 30 bits
pub few_parts : (l : Layout) → IsLayout l → 4 ^ l.prefix ≤ 4 ^ 15
few_parts l is =
    let parts : 15 - l.prefix + l.prefix ≡ 15 = omega (arith, is.most) in
    subst (λ m. 4 ^ l.prefix ≤ 4 ^ m) parts (pow_up l.prefix (15 - l.prefix))

-- as many entries as there are first parts
pub all_entries : (l : Layout) → IsLayout l → 1 * 2 ^ (2 * l.prefix) % 2 ^ 64 ≡ 4 ^ l.prefix
all_entries l is =
    let whole : 1 * 2 ^ (2 * l.prefix) ≡ 4 ^ l.prefix = omega (arith, pow_quad l.prefix) in
    ap (λ n. n % 2 ^ 64) whole ∙ mod-eq_of_lt (omega (arith, few_parts l is))

-- a greater number has no lower quotient
pub quotient_up : (d m n : ℕ) → 1 ≤ d → m ≤ n → m / d ≤ n / d
quotient_up d m n some up =
    let whole : m / d * d ≤ m = div-mul-le_self m d in
    le-div (m / d) n d some (omega (arith, whole, up))
