use Rattle.std.proofs.Common.{sym, subst}
use Rattle.kmc_split.specs.Candidates.{AreCandidates}
use Rattle.kmc_split.proofs.Fronts.{own_numbers}
use Rattle.kmc_split.proofs.cutting.cut_short.Goals as goal

pub cut_offered-requires-clause-are : goal.cut_offered-requires-clause-are
cut_offered-requires-clause-are c =
    subst (AreCandidates c.args.m c.args.codes.now) (sym (own_numbers c.offer_short.new.values.items)) c.in_ok-offer_short.ensures.are
