use Rattle.std.proofs.Common.{map, subst}
use Rattle.kmc_count.specs.Dump.{IsDump}
use Rattle.kmc_count.specs.Lemmas.PackedRuns.{once_each, once_fit}
use Rattle.kmc_count.proofs.plain.words.tally_words.Goals as goal

pub tally-requires-clause-fit : goal.tally-requires-clause-fit
tally-requires-clause-fit g c = once_fit c.args.rule.k (map g.W.PackedKmer.number c.args.words.now) c.requires.fit

pub returns : goal.returns
returns g c =
    subst (λ n. IsDump n c.args.limits.now c.tally.new.pairs.items) (λ i x. once_each c.args.rule.k
    (map g.W.PackedKmer.number c.args.words.now) x i) c.in_ok-tally.ensures.dump
