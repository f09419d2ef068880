use Rattle.std.proofs.Common.{[], ◌∷◌, ◌++◌, sym, subst}
use Rattle.kmc_dump.specs.Lanes.{AreLanes}
use Rattle.kmc_dump.proofs.Ends.{one_more}
use Rattle.kmc_dump.proofs.lane.make_lanes.Goals as goal

pub loop-made-preserved : goal.loop-made-preserved
loop-made-preserved g c =
    subst (λ fs. AreLanes fs c.push-in-loop-made.new.self.items) (sym c.in_ok-push.ensures.items)
    (subst (AreLanes (c.loop-made.fillers.items ++ c.in_ok-filler.filler ∷ [])) (sym c.in_ok-push-2.ensures.items)
    (one_more c.loop-made.fillers.items c.loop-made.trays.items c.in_ok-filler.filler c.in_ok-filler.tray c.loop-made.invariant c.in_ok-filler.ensures))
