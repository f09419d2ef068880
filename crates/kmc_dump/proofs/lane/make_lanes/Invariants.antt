use Rattle.kmc_dump.specs.Lanes.{AreLanes}
use Rattle.kmc_dump.proofs.lane.make_lanes.Given as goal

-- the ends so far are those of lanes
abbrev pub invariant-loop-made : goal.invariant-loop-made
invariant-loop-made g l = AreLanes l.fillers.items l.trays.items
