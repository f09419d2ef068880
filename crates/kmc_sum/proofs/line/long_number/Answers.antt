use Rattle.std.proofs.Common.{arith}
use Rattle.kmc_sum.proofs.Fronts.{not_none, not_all, no_zero, line_feed, value_is, number_some, number_is}
use Rattle.kmc_sum.proofs.line.long_number.Goals as goal
use Rattle.kmc_sum.proofs.line.long_number.Goals.{then-n-eq0-via-then-n-eq0, then-n-eq0-via-else-n-eq0+then-n-bytes, then-bytes-eq48-via-then-bytes-eq48, then-bytes-eq48-via-else-bytes-eq48+then-bytes-n-ne10, then-bytes-eq48-via-else-bytes-eq48+else-bytes-n-ne10+then-value-from}

pub returns-then-n-eq0 : goal.returns-then-n-eq0
returns-then-n-eq0 c = λ n more some most e.
    let xs = c.args.bytes.now in let d = c.digits-n.ensures in let m = c.digits-n.result.0 in
    elim c.then-n-eq0.branch [
      | then-n-eq0-via-then-n-eq0 w ↦ not_none xs m c.digits-n.result.1 d.within d.value d.each d.ends n more some most e w.if-n-eq0.true
      | then-n-eq0-via-else-n-eq0+then-n-bytes w ↦ not_all xs m c.digits-n.result.1 d.within d.value d.each d.ends n more some most e w.if-n-bytes.true
    ]

pub returns-then-bytes-eq48 : goal.returns-then-bytes-eq48
returns-then-bytes-eq48 c = λ n more some most e.
    let xs = c.args.bytes.now in let d = c.digits-n.ensures in let m = c.digits-n.result.0 in
    elim c.then-bytes-eq48.branch [
      | then-bytes-eq48-via-then-bytes-eq48 w ↦ no_zero xs m c.digits-n.result.1 d.within d.value d.each d.ends n more some most e w.if-bytes-eq48.true
      | then-bytes-eq48-via-else-bytes-eq48+then-bytes-n-ne10 w ↦ w.if-bytes-n-ne10.true
          (line_feed xs m c.digits-n.result.1 d.within d.value d.each d.ends n more some most e)
      | then-bytes-eq48-via-else-bytes-eq48+else-bytes-n-ne10+then-value-from w ↦
          omega (arith, value_is xs m c.digits-n.result.1 d.within d.value d.each d.ends n more some most e, w.if-value-from.true, w.from.ensures)
    ]

pub returns : goal.returns
returns c =
    let xs = c.args.bytes.now in let d = c.digits-n.ensures in let m = c.digits-n.result.0 in (
      number_some xs m c.digits-n.result.1 d.within d.value d.each c.if-n-eq0.false c.if-bytes-eq48.false
          (omega (arith, c.if-value-from.false, c.from.ensures)),
      omega (arith, c.if-value-from.false, c.from.ensures),
      omega (arith, d.within, c.if-n-bytes.false),
      number_is xs m c.digits-n.result.1 d.within d.value d.each c.if-n-eq0.false c.if-bytes-eq48.false
          (omega (arith, c.if-value-from.false, c.from.ensures)) (omega (arith, d.within, c.if-n-bytes.false)) (omega (arith, c.if-bytes-n-ne10.false)),
    )
