use Rattle.std.proofs.Common.{rules}
use Rattle.kmc_split.proofs.signatures.Sig.bin.Goals as goal

pub returns-clause-is : goal.returns-clause-is
returns-clause-is c = search rules
