use Rattle.std.proofs.Common.{[], ◌∷◌, ◌++◌, ap, ◌∙◌}
use Rattle.kmc_base.specs.Packed.{unpack}
use Rattle.kmc_lists.specs.Listed.{pairs_of}
use Rattle.kmc_lists.proofs.Beside.{one_more, still_listed}
use Rattle.kmc_lists.proofs.kmer_list.KmerListPairList.push_pair.Goals as goal

pub returns-clause-takes : goal.returns-clause-takes
returns-clause-takes g c = still_listed c.args._rule.k _ _ _ _ c.requires.takes c.in_ok-push.ensures.ok c.requires.fits

pub returns-clause-pairs : goal.returns-clause-pairs
returns-clause-pairs g c =
    one_more c.args._rule.k _ _ _ _ c.requires.takes c.in_ok-push.ensures.ok
    ∙ ap (λ n. pairs_of c.args.self.now ++ (unpack c.args._rule.k (g.W.PackedKmer.number c.args.word), n) ∷ []) c.narrow.ensures
