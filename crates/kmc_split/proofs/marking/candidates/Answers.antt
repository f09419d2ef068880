use Rattle.std.proofs.Common.{◌<◌, length, map, slice_index, ◌∙◌, arith}
use Rattle.kmc_base.specs.Words.{window}
use Rattle.kmc_split.specs.Lemmas.Least.{packed_candidate_is}
use Rattle.kmc_split.proofs.marking.candidates.Goals as goal

pub returns-clause-each : goal.returns-clause-each
returns-clause-each g c = λ i inside.
    let values = map g.V.Mmer.number c.canonical_values.new.out in
    let here : i < length c.canonical_values.new.out = omega arith in
    c.mark_forbidden.ensures i inside
    ∙ packed_candidate_is c.args.m (slice_index values i) (window c.args.m c.args.codes.now i)
    (c.canonical_values.ensures.fit i here) (c.canonical_values.ensures.each i here)
