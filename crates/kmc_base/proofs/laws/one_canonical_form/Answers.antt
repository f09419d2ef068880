use Rattle.kmc_base.specs.Lemmas.Packs.{canonical_rev_comp}
use Rattle.kmc_base.specs.Lemmas.Ranges.{codes_each}
use Rattle.kmc_base.proofs.laws.one_canonical_form.Goals as goal

pub returns : goal.returns
returns c = λ w h. canonical_rev_comp w (codes_each w h)
