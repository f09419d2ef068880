use Rattle.std.proofs.Common.{◌+◌, ◌*◌}
use Rattle.kmc_stage_two.proofs.merging.+sharers.Given as goal

-- each half has fewer parts
abbrev pub decreases-list_share : goal.decreases-list_share
decreases-list_share g l = 2 * l.share.parts

abbrev pub decreases-front : goal.decreases-front
decreases-front g l = 2 * l.low.parts + 1

abbrev pub decreases-back : goal.decreases-back
decreases-back g l = 2 * l.high.parts + 1
