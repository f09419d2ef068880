use Rattle.kmc_join.proofs.Unions.{union_by_sum_is_merge}
use Rattle.kmc_join.proofs.laws.union_by_sum_is_merge.Goals as goal

pub returns : goal.returns
returns c = union_by_sum_is_merge
