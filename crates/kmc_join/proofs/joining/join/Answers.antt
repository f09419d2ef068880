use Rattle.std.proofs.Common.{refl, arith, ◌∙◌}
use Rattle.std.proofs.lemmas.Grind.{common_steps}
use Rattle.std.proofs.lemmas.List.{length-map}
use Rattle.kmc_sum.specs.Lemmas.Beginnings.{gave_nothing}
use Rattle.kmc_join.proofs.Steps.{begun_none}
use Rattle.kmc_join.proofs.joining.join.Goals as goal

pub returns-in-Err : goal.returns-in-Err
returns-in-Err g c = record {
  ok = tt;
  sound = tt;
  cause = (refl, refl, refl);
  begun = (1, begun_none _ (length-map c.args.readers.now _ ∙ c.requires.two) c.args.rule 1 c.args.limits.now _ _ (gave_nothing 1 _));
}

pub returns-in-Err-heads_for : goal.returns-in-Err-heads_for
returns-in-Err-heads_for g c = record {
  ok = tt;
  sound = tt;
  cause = (refl, refl, refl);
  begun = (1, begun_none _ (length-map c.args.readers.now _ ∙ c.requires.two) c.args.rule 1 c.args.limits.now _ _ (gave_nothing 1 _));
}

pub join_in-requires-clause-rooms : goal.join_in-requires-clause-rooms
join_in-requires-clause-rooms g c = grind (arith, common_steps)
