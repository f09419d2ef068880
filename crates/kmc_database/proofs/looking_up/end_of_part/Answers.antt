use Rattle.std.proofs.Common.{arith}
use Rattle.kmc_database.proofs.Words.{few_parts}
use Rattle.kmc_database.proofs.looking_up.end_of_part.Goals as goal

pub overflow_add-part : goal.overflow_add-part
overflow_add-part g c = omega (arith, few_parts c.args.header.now.layout c.requires.layout, c.requires.part)
