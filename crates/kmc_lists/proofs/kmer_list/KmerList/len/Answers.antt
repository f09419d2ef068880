use Rattle.std.proofs.Common.{length, map, ap, arith}
use Rattle.std.proofs.lemmas.List.{length-map}
use Rattle.kmc_lists.specs.Listed.{Listed}
use Rattle.kmc_lists.proofs.Beside.{long_beside}
use Rattle.kmc_lists.proofs.kmer_list.KmerList.len.Goals as goal

pub returns : goal.returns
returns g c =
    let ns = map g.W.PackedKmer.number c.self.inside.words.items in
    let cs = map g.C.CountWidth.count c.self.inside.counts.items in
    omega (
      arith,
      c.len.ensures,
      ap (λ (v : Listed). length v.packed) c.self.view_is,
      long_beside ns cs c.self.invariant.long,
      length-map c.self.inside.words.items g.W.PackedKmer.number,
      c.self.inside.words.ok.0,
    )
