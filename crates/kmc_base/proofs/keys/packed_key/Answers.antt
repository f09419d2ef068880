use Rattle.std.proofs.Common.{rules}
use Rattle.kmc_base.proofs.keys.packed_key.Goals as goal

pub returns-in-Apart : goal.returns-in-Apart
returns-in-Apart g c = search rules
