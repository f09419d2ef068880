use Rattle.std.proofs.Common.{ℕ, ap, ◌∙◌}
use Rattle.kmc_base.specs.Packed.{unpack}
use Rattle.kmc_split.specs.Signature.{is_allowed}
use Rattle.kmc_split.proofs.plain.signatures.allowed.Goals as goal

pub returns : goal.returns
returns c =
    c.is_allowed_with.ensures
    ∙ ap is_allowed (ap (λ (n : ℕ). unpack n c.packed.result) c.k-m.ensures.is ∙ c.packed.ensures.is ∙ c.canon-form.ensures)
