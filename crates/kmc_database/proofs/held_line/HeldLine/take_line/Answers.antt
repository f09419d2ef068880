use Rattle.std.proofs.Common.{ap, sym, arith}
use Rattle.kmc_database.proofs.HeldLines.{in_hand}
use Rattle.kmc_database.specs.declared.row_reading.Row.{Row}
use Rattle.kmc_database.proofs.held_line.HeldLine.take_line.Goals as goal

pub returns : goal.returns
returns c =
    in_hand _ _ _ _ c.self.inside.row c.in-Some.field-0 c.self.inside.text c.args.self.now c.in-Some.is
    (ap (λ (r : Row). r.packed) c.in-Some.field-0-is) (ap (λ (r : Row). r.count) c.in-Some.field-0-is) c.self.invariant (sym c.self.view_is)
    c.if-count-eq0.false (omega (arith, c.digits_of.ensures.is))
