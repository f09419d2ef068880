use Rattle.std.proofs.Common.{rules}
use Rattle.kmc_count.proofs.limits.Limits.new.Goals as goal

pub returns-else-ci-le-GREATEST_COUNT : goal.returns-else-ci-le-GREATEST_COUNT
returns-else-ci-le-GREATEST_COUNT c = search rules
