use Rattle.std.proofs.Common.{length}
use Rattle.kmc_stage_two.proofs.bins.+list_bodies.Given as goal

-- each half has fewer bodies
abbrev pub decreases-list_bodies : goal.decreases-list_bodies
decreases-list_bodies g l = length l.bodies.now
