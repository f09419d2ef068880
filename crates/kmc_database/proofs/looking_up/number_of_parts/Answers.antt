use Rattle.std.proofs.Common.{arith}
use Rattle.kmc_database.proofs.Words.{all_entries, few_parts}
use Rattle.kmc_database.proofs.looking_up.number_of_parts.Goals as goal

pub returns-clause-is : goal.returns-clause-is
returns-clause-is c = all_entries c.args.layout.now c.requires

pub returns-clause-most : goal.returns-clause-most
returns-clause-most c = omega (arith, all_entries c.args.layout.now c.requires, few_parts c.args.layout.now c.requires)
