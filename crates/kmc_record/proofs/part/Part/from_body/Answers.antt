use Rattle.std.proofs.Common.{rules}
use Rattle.kmc_record.proofs.part.Part.from_body.Goals as goal

pub returns-in-Ok-clause-body : goal.returns-in-Ok-clause-body
returns-in-Ok-clause-body c = search rules

pub returns-in-Ok-clause-part : goal.returns-in-Ok-clause-part
returns-in-Ok-clause-part c = search rules
