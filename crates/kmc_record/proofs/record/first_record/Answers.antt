use Rattle.std.proofs.Common.{◌≡◌, ◌+◌, ◌*◌, ◌-◌, ◌<◌, ◌≤◌, length, take, drop, get_or, ◌∙◌, arith, length-take, rules}
use Rattle.kmc_base.specs.Record.{size_of}
use Rattle.kmc_base.specs.Lemmas.Codes.{code_in_front}
use Rattle.kmc_record.proofs.record.first_record.Goals as goal

pub returns-then-not-rest_is_zero-clause-fault : goal.returns-then-not-rest_is_zero-clause-fault
returns-then-not-rest_is_zero-clause-fault c =
    let z = c.if-not-rest_is_zero.ensures.no (λ h. cc) in
    let bs = c.args.bytes.now in
    let size = c.code_bytes-size.result in
    let same : 1 + size - 1 ≡ size = omega arith in
    let n : c.from.result ≡ get_or bs 0 0 = omega arith in
    let full : size ≡ size_of (c.from.result + c.args.k) = c.code_bytes-size.ensures in
    let most : length (take (1 + size - 1) (drop 1 bs)) ≤ 1 + size - 1 = omega (arith, length-take (1 + size - 1) (drop 1 bs)) in
    let below : z.0 < 4 * size = omega (arith, z.2, most, same) in
    let is = code_in_front size (1 + size - 1) (drop 1 bs) z.0 same below in
    (omega (arith, c.if-bytes-size.false, n, full), (z.0, omega (arith, z.1, n), omega (arith, below, n, full), λ h. z.3 (is ∙ h)))

pub rest_is_zero-requires-clause-within : goal.rest_is_zero-requires-clause-within
rest_is_zero-requires-clause-within c = search rules

pub returns-clause-rest : goal.returns-clause-rest
returns-clause-rest c = search rules
