use Rattle.std.proofs.Common.{ℕ, ◌<◌}
use Rattle.std.proofs.lemmas.List.Elements.{recursion_from_All}
use Rattle.kmc_split.specs.Lemmas.BothStrands.{strands_share}
use Rattle.kmc_split.proofs.laws.strands_share_signature.Goals as goal

pub returns : goal.returns
returns c = λ m w within codes. strands_share m w within (recursion_from_All (λ (x : ℕ). x < 4) w codes)
