use Rattle.std.proofs.Common.{◌<◌, ◌^◌, All, map, subst}
use Rattle.kmc_lists.specs.Listed.{Listed}
use Rattle.kmc_lists.proofs.Beside.{fit_beside}
use Rattle.kmc_lists.proofs.kmer_list.KmerList.k.Goals as goal

pub returns-clause-fit : goal.returns-clause-fit
returns-clause-fit g c =
    subst (λ (v : Listed). All (λ p. p.0 < 4 ^ v.k) v.packed) c.self.view_is
    (fit_beside (4 ^ c.self.inside.k) (map g.W.PackedKmer.number c.self.inside.words.items)
    (map g.C.CountWidth.count c.self.inside.counts.items) c.self.invariant.long c.self.invariant.fit)
