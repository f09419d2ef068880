use Rattle.kmc_stage_one.proofs.Few.{no_numbers_spent}
use Rattle.kmc_stage_one.proofs.laws.few_chunks_spend_no_numbers.Goals as goal

pub returns : goal.returns
returns c = no_numbers_spent
