use Rattle.kmc_count.proofs.MergedDump.{merged_dump}
use Rattle.kmc_count.proofs.laws.merged_dumps_are_one.Goals as goal

pub returns : goal.returns
returns c = merged_dump
