use Rattle.kmc_count.proofs.MergedDump.{dumps_apart, dumps_rise}
use Rattle.kmc_count.proofs.laws.dumps_can_be_merged.Goals as goal

pub returns : goal.returns
returns c = λ l wss lists dumps apart. (dumps_apart l wss lists dumps apart, dumps_rise l wss lists dumps)
