use Rattle.std.proofs.Common.{rules}
use Rattle.kmc_lists.proofs.count_width.U32CountWidth.narrow.Goals as goal

pub overflow_cast-result : goal.overflow_cast-result
overflow_cast-result c = search rules
