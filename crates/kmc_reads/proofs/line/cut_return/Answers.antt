use Rattle.std.proofs.Common.{rules}
use Rattle.kmc_reads.proofs.line.cut_return.Goals as goal

pub returns-in-13-clause-content : goal.returns-in-13-clause-content
returns-in-13-clause-content c = search rules

pub returns-in-13-clause-held : goal.returns-in-13-clause-held
returns-in-13-clause-held c = search rules
