use Rattle.std.proofs.Common.{◌≡◌, ◌<◌, length, get_or, map, ap, sym, ◌∙◌, arith}
use Rattle.std.proofs.lemmas.List.{length-map, get_or-map}
use Rattle.std.proofs.lemmas.Slice.Zip.{get_or-zip}
use Rattle.kmc_lists.specs.Listed.{Listed}
use Rattle.kmc_lists.proofs.Beside.{long_beside}
use Rattle.kmc_lists.proofs.kmer_list.KmerList.get.Goals as goal

pub index-requires : goal.index-requires
index-requires g c =
    let ns = map g.W.PackedKmer.number c.self.inside.words.items in
    let cs = map g.C.CountWidth.count c.self.inside.counts.items in
    omega (
      arith,
      c.requires,
      ap (λ (v : Listed). length v.packed) c.self.view_is,
      long_beside ns cs c.self.invariant.long,
      length-map c.self.inside.words.items g.W.PackedKmer.number,
      c.self.inside.words.ok.0,
    )

pub index-requires-2 : goal.index-requires-2
index-requires-2 g c =
    let ns = map g.W.PackedKmer.number c.self.inside.words.items in
    let cs = map g.C.CountWidth.count c.self.inside.counts.items in
    omega (
      arith,
      c.requires,
      ap (λ (v : Listed). length v.packed) c.self.view_is,
      long_beside ns cs c.self.invariant.long,
      c.self.invariant.long,
      length-map c.self.inside.counts.items g.C.CountWidth.count,
      c.self.inside.counts.ok.0,
    )

pub returns : goal.returns
returns g c = λ d.
    let ws = c.self.inside.words.items in
    let us = c.self.inside.counts.items in
    let ns = map g.W.PackedKmer.number ws in
    let cs = map g.C.CountWidth.count us in
    let i = c.args.i in
    let long = c.self.invariant.long in
    let inside : i < length ns = omega (arith, c.requires, ap (λ (v : Listed). length v.packed) c.self.view_is, long_beside ns cs long) in
    let within : i < length cs = omega (arith, inside, long) in
    let a : get_or ns i d.0 ≡ g.W.PackedKmer.number c.index.result.now = get_or-map g.W.PackedKmer.number ws i c.index.result.now d.0
    (omega (arith, inside, length-map ws g.W.PackedKmer.number)) ∙ ap g.W.PackedKmer.number (sym c.index.ensures) in
    let b : get_or cs i d.1 ≡ g.C.CountWidth.count c.index-2.result.now = get_or-map g.C.CountWidth.count us i c.index-2.result.now d.1
    (omega (arith, within, length-map us g.C.CountWidth.count)) ∙ ap g.C.CountWidth.count (sym c.index-2.ensures) in
    (λ j. (sym a j, sym b j)) ∙ sym (get_or-zip ns cs i d inside within) ∙ ap (λ (v : Listed). get_or v.packed i d) c.self.view_is
