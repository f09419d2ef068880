use Rattle.std.proofs.Common.{ap, ◌+◌, ◌*◌}
use Rattle.kmc_database.proofs.Words.{all_entries}
use Rattle.kmc_database.proofs.last_header.prefix_long.Goals as goal

pub returns : goal.returns
returns c = ap (λ n. 76 + 8 * n) (all_entries c.args.layout.now c.requires)
