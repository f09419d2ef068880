use Rattle.std.proofs.Common.{ℕ, ◌<◌}
use Rattle.std.proofs.lemmas.List.Elements.{recursion_from_All}
use Rattle.kmc_split.specs.Lemmas.BothStrands.{canonical_fixes}
use Rattle.kmc_split.proofs.laws.canonical_fixes_signature.Goals as goal

pub returns : goal.returns
returns c = λ m v w within hv hw. canonical_fixes m v w within (recursion_from_All (λ (x : ℕ). x < 4) v hv) (recursion_from_All (λ (x : ℕ). x < 4) w hw)
