use Rattle.std.proofs.Common.{◌-◌, ◌*◌, ◌≤◌, arith, le_refl}
use Rattle.std.proofs.lemmas.Nat.{mul-le}
use Rattle.kmc_split.specs.Lemmas.Lowest.{fits_most}
use Rattle.kmc_split.proofs.rolling.behind.Goals as goal

pub overflow_mul-result : goal.overflow_mul-result
overflow_mul-result c =
    let three : 3 - c.args.code ≤ 3 = omega arith in
    let most : (3 - c.args.code) * c.args.top ≤ 3 * c.args.top = mul-le (3 - c.args.code) c.args.top 3 c.args.top three (le_refl c.args.top) in
    omega (arith, most, fits_most c.requires.top.0 (omega arith), c.requires.top.2)

pub overflow_add-result : goal.overflow_add-result
overflow_add-result c =
    let three : 3 - c.args.code ≤ 3 = omega arith in
    let most : (3 - c.args.code) * c.args.top ≤ 3 * c.args.top = mul-le (3 - c.args.code) c.args.top 3 c.args.top three (le_refl c.args.top) in
    omega (arith, most, fits_most c.requires.top.0 (omega arith), c.requires.top.2, c.requires.back)
