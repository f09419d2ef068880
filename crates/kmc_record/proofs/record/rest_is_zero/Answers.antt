use Rattle.std.proofs.Common.{◌≡◌, ℕ, ◌+◌, ◌*◌, ◌-◌, ◌%◌, ◌^◌, ◌<◌, ◌∙◌, nat_eq, true, ap, sym, arith, length, drop, get_or, length-drop}
use Rattle.std.proofs.lemmas.Bool.Decides.{nat_tests}
use Rattle.std.proofs.lemmas.List.{get_or-drop, get_or_default}
use Rattle.kmc_base.specs.Record.{codes_in}
use Rattle.kmc_base.specs.Lemmas.Codes.{length_codes, at, low_mask, lowest_zero, lowest_some}
use Rattle.kmc_record.proofs.record.rest_is_zero.Goals as goal

is_zero : (x y : ℕ) → x ≡ y → nat_eq x 0 ≡ true → y ≡ 0
is_zero x y e h = grind (arith, nat_tests)

not_zero : (x y : ℕ) → x ≡ y → (nat_eq x 0 ≡ true → ⊥) → y ≡ 0 → ⊥
not_zero x y e h z = h (grind (arith, nat_tests))

pub returns-clause-yes : goal.returns-clause-yes
returns-clause-yes c = λ t k d h.
    let bs = c.args.bytes.now in
    let q = length bs - 1 in
    let p = 4 * length bs - c.args.start in
    let r = c.args.start + k - 4 * q in
    let b = get_or bs q 0 in
    let few : p < 4 = omega arith in
    let some : 0 < length bs = omega (arith, c.if-bytes-eq0.false) in
    let inside : c.args.start + k < 4 * length bs = omega (arith, length-drop c.args.start (codes_in bs), length_codes bs) in
    let place : 4 * q + r ≡ c.args.start + k = omega arith in
    let zero = is_zero (b % (1 * 2 ^ (2 * p) % 256)) (b % 2 ^ (2 * p)) (ap (λ n. b % n) (low_mask p few)) t in
    get_or_default (drop c.args.start (codes_in bs)) k d 0 h ∙ get_or-drop c.args.start (codes_in bs) k 0 ∙ ap (λ i. get_or (codes_in bs) i 0) (sym place)
    ∙ at bs q r (omega arith) (omega arith) ∙ lowest_zero b p r few (omega arith) (omega arith) zero

pub returns-clause-no : goal.returns-clause-no
returns-clause-no c = λ f.
    let bs = c.args.bytes.now in
    let q = length bs - 1 in
    let p = 4 * length bs - c.args.start in
    let b = get_or bs q 0 in
    let few : p < 4 = omega arith in
    let some : 0 < length bs = omega (arith, c.if-bytes-eq0.false) in
    let z = lowest_some b p few (not_zero (b % (1 * 2 ^ (2 * p) % 256)) (b % 2 ^ (2 * p)) (ap (λ n. b % n) (low_mask p few)) f) in
    (4 * q + z.0, omega (arith, z.1, z.2), omega (arith, z.1), λ e. z.3 (sym (at bs q z.0 (omega arith) z.1) ∙ e))
