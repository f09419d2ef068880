use Rattle.std.proofs.Common.{rules}
use Rattle.kmc_device.proofs.counted.Counted.note.Goals as goal

pub returns-clause-failures : goal.returns-clause-failures
returns-clause-failures g c = search rules

pub returns-clause-pipe : goal.returns-clause-pipe
returns-clause-pipe g c = search rules
