use Rattle.std.proofs.Common.{◌-◌, ◌*◌, ◌^◌, ◌≤◌, subst, leb-true, arith}
use Rattle.kmc_dump.proofs.RangeKeys.{fit_room, shift_fits}
use Rattle.kmc_dump.proofs.keys.fit_keys.Goals as goal

pub returns-then-saturating_sub-bits-clause-room : goal.returns-then-saturating_sub-bits-clause-room
returns-then-saturating_sub-bits-clause-room g c = λ yes.
    subst (λ b. (c.args.range.to - c.args.range.from) * 2 ^ c.args.range.shift * 2 ^ b ≤ 2 ^ 64) c.bits-bits.ensures.is
    (fit_room (c.args.range.to - c.args.range.from) c.args.range.shift c.bits-bits.result (omega (arith, c.if-bits-ge64.false)) (omega (arith, c.if-range-bits.false))
    (omega (arith, c.if-saturating_sub-bits.true, c.saturating_sub.ensures)))

pub returns-then-saturating_sub-bits-clause-least : goal.returns-then-saturating_sub-bits-clause-least
returns-then-saturating_sub-bits-clause-least g c = λ yes. shift_fits c.args.range.from c.args.range.shift (leb-true _ _ yes)

pub overflow_shr-result : goal.overflow_shr-result
overflow_shr-result g c = omega (arith, c.if-range-bits.false)

pub returns-else-saturating_sub-bits-clause-least : goal.returns-else-saturating_sub-bits-clause-least
returns-else-saturating_sub-bits-clause-least g c = λ yes. absurd (omega (arith, leb-true _ _ yes, c.if-saturating_sub-bits.false))

pub returns-else-saturating_sub-bits-clause-room : goal.returns-else-saturating_sub-bits-clause-room
returns-else-saturating_sub-bits-clause-room g c = λ yes. absurd (omega (arith, leb-true _ _ yes, c.if-saturating_sub-bits.false))
