use Rattle.std.proofs.Common.{rules, ◌^◌, subst}
use Rattle.std.specs.Prelude.{IfOk}
use Rattle.kmc_dump.specs.Ranges.{HaveSizes}
use Rattle.kmc_dump.proofs.slots.+sizes.Goals as goal

pub returns : goal.returns
returns g t c =
    let a = c.args in
    let w = 2 ^ a.shift in
    let low = c.halves.result.0.now in
    let high = c.halves.result.1.now in
    let one : IfOk c.join_mut-one.result.0 (λ s. HaveSizes w a.slots s.items low) = search (rules, c.join_mut-one.ensures) in
    let two : IfOk c.join_mut-one.result.1 (λ s. HaveSizes w a.slots s.items high) = search (rules, c.join_mut-one.ensures) in
    subst (λ ls. IfOk c.both_sizes.result (λ s. HaveSizes w a.slots s.items ls)) c.halves.ensures.all (c.both_sizes.ensures w a.slots low high one two)
