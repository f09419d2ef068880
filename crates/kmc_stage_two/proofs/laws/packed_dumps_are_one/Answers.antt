use Rattle.kmc_stage_two.specs.Lemmas.PackedDumps.{packed_one}
use Rattle.kmc_stage_two.proofs.laws.packed_dumps_are_one.Goals as goal

pub returns : goal.returns
returns c = packed_one c.dumps_can_be_merged.ensures c.merged_dumps_are_one.ensures
