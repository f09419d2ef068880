use Rattle.kmc_base.specs.Lemmas.Codes.{code_is}
use Rattle.kmc_record.proofs.record.code_at.Goals as goal

pub returns-clause-is : goal.returns-clause-is
returns-clause-is c = code_is c.args.bytes.now c.args.i c.requires
