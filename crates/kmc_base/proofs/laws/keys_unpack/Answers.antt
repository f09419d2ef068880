use Rattle.kmc_base.specs.Lemmas.Keys.{keys_are_words, unpack_all, packs_fit}
use Rattle.kmc_base.specs.Strands.{keys}
use Rattle.kmc_base.specs.Lemmas.Ranges.{codes_each}
use Rattle.kmc_base.proofs.laws.keys_unpack.Goals as goal

pub returns : goal.returns
returns c = λ strands k w h.
    let words = keys_are_words strands k w (codes_each w h) in
    (unpack_all k (keys strands k w) words, packs_fit k (keys strands k w) words)
