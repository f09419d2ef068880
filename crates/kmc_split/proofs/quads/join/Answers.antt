use Rattle.std.proofs.Common.{ℕ, ◌+◌, ◌-◌, ◌*◌, ◌%◌, ◌^◌, ◌<◌, ◌≤◌, ◌≡◌, bit_and, ap, ◌∙◌, arith}
use Rattle.std.proofs.lemmas.Nat.{mul-le, and_le_l}
use Rattle.kmc_base.specs.Lemmas.Powers.{masked, pow_some}
use Rattle.kmc_split.specs.Lemmas.Lowest.{pow_rises}
use Rattle.kmc_split.proofs.quads.join.Goals as goal

-- a byte times 4 ^ d
product : (x t d : ℕ) → x < 256 → d ≤ 4 → t ≡ 4 ^ d → x * t ≤ 255 * 256
product x t d small few e = mul-le x t 255 256 (omega arith) (omega (arith, pow_rises d 4 few))

pub overflow_mul-result : goal.overflow_mul-result
overflow_mul-result c =
    let most = product c.from.result c.args.top c.requires.0 (omega (arith, c.from.ensures)) c.requires.1 c.requires.2 in omega arith

pub overflow_sub-result : goal.overflow_sub-result
overflow_sub-result c = omega (arith, c.requires.2, pow_some c.requires.0)

pub overflow_add-result : goal.overflow_add-result
overflow_add-result c =
    let most = product c.from.result c.args.top c.requires.0 (omega (arith, c.from.ensures)) c.requires.1 c.requires.2 in
    omega (arith, and_le_l c.from-2.result (c.args.top - 1), c.from-2.ensures)

pub returns : goal.returns
returns c = λ d e.
    (λ t. c.from.ensures t * e t + bit_and (c.from-2.ensures t) (c.args.top - 1))
    ∙ ap (λ (x : ℕ). c.args.high * 4 ^ d + x) (masked c.args.low c.args.top d e ∙ ap (λ (t : ℕ). c.args.low % t) e)
