use Rattle.kmc_sum.proofs.Quads.{top_byte}
use Rattle.kmc_sum.proofs.line.gathered.Goals as goal

pub returns : goal.returns
returns c = top_byte _
