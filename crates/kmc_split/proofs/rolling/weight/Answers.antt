use Rattle.std.proofs.Common.{ℕ, ◌*◌, ap, ◌∙◌, arith, add-one}
use Rattle.kmc_split.specs.Lemmas.Lowest.{fits_most}
use Rattle.kmc_split.proofs.rolling.weight.Goals as goal

pub overflow_mul-power : goal.overflow_mul-power
overflow_mul-power c = omega (arith, c.loop-i.invariant, fits_most c.loop-i._i (omega arith))

pub loop-i-preserved : goal.loop-i-preserved
loop-i-preserved c = ap (λ (p : ℕ). p * 4) c.loop-i.invariant ∙ rw (add-one c.loop-i._i) (omega arith)
