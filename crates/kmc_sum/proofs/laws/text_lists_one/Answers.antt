use Rattle.std.proofs.Common.{sym, ◌∙◌}
use Rattle.kmc_sum.proofs.Texts.{same_pairs}
use Rattle.kmc_sum.proofs.laws.text_lists_one.Goals as goal

pub returns : goal.returns
returns c = λ k n text pairs others a b. same_pairs k n pairs others a.listed.each b.listed.each (sym a.lines ∙ b.lines)
