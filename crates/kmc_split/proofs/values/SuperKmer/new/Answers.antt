use Rattle.std.proofs.Common.{rules}
use Rattle.kmc_split.proofs.values.SuperKmer.new.Goals as goal

pub returns-else-fits : goal.returns-else-fits
returns-else-fits c = search rules
