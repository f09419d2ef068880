use Rattle.std.proofs.Common.{IsTrue, Bool, true, false, ◌&&◌, refl, below_more}
use Rattle.kmc_base.proofs.stretch.are_bases.Goals as goal

both : (a b : Bool) → IsTrue (a && b) → IsTrue a × IsTrue b
both true true h = (refl, refl)
both true false h = absurd (cc)
both false b h = absurd (cc)

pub loop-i-preserved : goal.loop-i-preserved
loop-i-preserved c = λ h.
    let each = both c.loop-i.all c.is_base-all.result h in
    below_more _ _ (c.loop-i.invariant each.0) (c.is_base-all.ensures.yes each.1)
