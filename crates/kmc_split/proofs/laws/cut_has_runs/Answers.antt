use Rattle.kmc_split.proofs.Kept.{runs_are}
use Rattle.kmc_split.proofs.laws.cut_has_runs.Goals as goal

pub returns : goal.returns
returns c = runs_are
