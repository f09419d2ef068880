use Rattle.std.proofs.Common.{◌+◌, ◌*◌}
use Rattle.kmc_stage_two.proofs.shared.+sharers.Given as goal

-- each side has fewer threads
abbrev pub decreases-take_shared : goal.decreases-take_shared
decreases-take_shared g l = 2 * l.threads

abbrev pub decreases-front : goal.decreases-front
decreases-front g l = 2 * l.few + 1

abbrev pub decreases-back : goal.decreases-back
decreases-back g l = 2 * l.others + 1
