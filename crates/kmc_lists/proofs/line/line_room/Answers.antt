use Rattle.std.proofs.Common.{rules}
use Rattle.kmc_lists.proofs.line.line_room.Goals as goal

pub returns-clause-is : goal.returns-clause-is
returns-clause-is c = search rules
