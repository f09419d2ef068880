use Rattle.std.proofs.Common.{rules}
use Rattle.std.proofs.lemmas.Fmt.{length-decimal-le}
use Rattle.kmc_lists.proofs.count_width.U32CountWidth.to_u64.Goals as goal

pub returns-clause-short : goal.returns-clause-short
returns-clause-short c = search (rules, length-decimal-le 10)
