use Rattle.kmc_count.specs.Lemmas.OneDump.{one_dump}
use Rattle.kmc_count.proofs.laws.one_dump.Goals as goal

pub returns : goal.returns
returns c = one_dump
