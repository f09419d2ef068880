use Rattle.std.proofs.Common.{◌≡◌, ◌+◌, ◌-◌, length, take, drop, ap, subst, arith}
use Rattle.kmc_base.specs.Stretches.{AreBases}
use Rattle.kmc_base.specs.Lemmas.Stretching.{bases_more}
use Rattle.kmc_base.proofs.stretch.ends_in_bases.Goals as goal

pub returns-then-last-from : goal.returns-then-last-from
returns-then-last-from c = λ are before.
    let bytes = c.args.bytes.now in
    let n = c.saturating_sub-last.result in
    let d = length bytes - n in
    let all : n + d ≡ length bytes = omega (arith, c.saturating_sub-last.ensures) in
    let many : length bytes - n ≡ n + d - n = omega arith in
    subst (λ j. AreBases j bytes) all
    (bases_more n d bytes _ (ap (λ j. take j (drop n bytes)) many) (omega (arith, all)) (c.are_bases.ensures are) (λ i h. before i (omega (arith, c.if-last-from.true))))
