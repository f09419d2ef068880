use Rattle.std.proofs.Common.{◌<◌, ◌≤◌, ◌^◌, ◌≡◌, length, arith}
use Rattle.kmc_sum.proofs.Fronts.{number_some, number_is}
use Rattle.kmc_sum.proofs.line.number.Goals as goal

pub returns-then-bytes-n-eq10 : goal.returns-then-bytes-n-eq10
returns-then-bytes-n-eq10 c =
    let xs = c.args.bytes.now in
    let d = c.first_digits-n.ensures in
    let m = c.first_digits-n.result.0 in
    let v = c.first_digits-n.result.1 in
    let within : m ≤ length xs = omega (arith, d.most) in
    let some : m ≡ 0 → ⊥ = λ none. omega arith in
    let fits : v < 2 ^ 64 = omega (arith, d.small) in
    let inside : m < length xs = omega (arith, d.most) in (
      number_some xs m v within d.value d.each some c.if-bytes-ne48.true fits,
      fits,
      omega arith,
      number_is xs m v within d.value d.each some c.if-bytes-ne48.true fits inside c.if-bytes-n-eq10.true,
    )
