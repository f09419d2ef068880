use Rattle.std.proofs.Common.{◌+◌, ◌*◌}
use Rattle.kmc_dump.proofs.slots.+sizes.Given as goal

-- each side has fewer threads
abbrev pub decreases-slot_sizes : goal.decreases-slot_sizes
decreases-slot_sizes g l = 2 * l.threads

abbrev pub decreases-front : goal.decreases-front
decreases-front g l = 2 * l.few + 1

abbrev pub decreases-back : goal.decreases-back
decreases-back g l = 2 * l.others + 1
