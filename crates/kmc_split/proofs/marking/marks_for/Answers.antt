use Rattle.std.proofs.Common.{◌+◌, ◌*◌, arith, ap, ◌∙◌, sym, ℕ}
use Rattle.kmc_split.proofs.Pairs.{marks_room, pair_marks_more}
use Rattle.kmc_split.proofs.marking.marks_for.Goals as goal

pub overflow_mul-marks : goal.overflow_mul-marks
overflow_mul-marks c = omega (arith, marks_room c.loop-i._i (omega arith))

pub overflow_add-marks : goal.overflow_add-marks
overflow_add-marks c = omega (arith, marks_room c.loop-i._i (omega arith))

pub loop-i-preserved : goal.loop-i-preserved
loop-i-preserved c = ap (λ (x : ℕ). x * 4 + 1) c.loop-i.invariant ∙ sym (pair_marks_more c.loop-i._i)
