use Rattle.std.proofs.Common.{◌-◌}
use Rattle.kmc_dump.proofs.parting.+halves.Given as goal

-- each half has fewer slots
abbrev pub decreases-part_range : goal.decreases-part_range
decreases-part_range g l = l.range.to - l.range.from
