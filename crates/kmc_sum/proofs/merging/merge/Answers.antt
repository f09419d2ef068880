use Rattle.std.proofs.Common.{refl, arith}
use Rattle.std.proofs.lemmas.Grind.{common_steps}
use Rattle.kmc_sum.proofs.Merges.{begun_none}
use Rattle.kmc_sum.specs.Lemmas.Beginnings.{gave_nothing}
use Rattle.kmc_sum.proofs.merging.merge.Goals as goal

pub returns-in-Err : goal.returns-in-Err
returns-in-Err g c = record { ok = tt; sound = tt; cause = (refl, refl, refl); begun = (1, begun_none 1 c.args.limits.now _ _ _ (gave_nothing 1 _)) }

pub returns-in-Err-heads_for : goal.returns-in-Err-heads_for
returns-in-Err-heads_for g c = record { ok = tt; sound = tt; cause = (refl, refl, refl); begun = (1, begun_none 1 c.args.limits.now _ _ _ (gave_nothing 1 _)) }

pub merge_in-requires-clause-rooms : goal.merge_in-requires-clause-rooms
merge_in-requires-clause-rooms g c = grind (arith, common_steps)
