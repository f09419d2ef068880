use Rattle.kmc_stage_two.proofs.Apart.{keys_apart}
use Rattle.kmc_stage_two.proofs.laws.bins_share_no_key.Goals as goal

pub returns : goal.returns
returns c = keys_apart c.body_has_one_list.ensures c.canonical_fixes_signature.ensures
