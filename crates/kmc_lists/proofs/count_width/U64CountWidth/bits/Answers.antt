use Rattle.std.proofs.Common.{arith}
use Rattle.std.proofs.lemmas.Fmt.{length-decimal-le}
use Rattle.kmc_lists.proofs.count_width.U64CountWidth.bits.Goals as goal

pub returns-clause-short : goal.returns-clause-short
returns-clause-short c = λ n small. length-decimal-le 20 n (omega arith) (omega (arith, small)) (omega (arith, small))
