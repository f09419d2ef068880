use Rattle.std.proofs.Common.{ℕ, sym, subst, refl, ◌∙◌}
use Rattle.std.proofs.lemmas.Result.{on_ok_weaker}
use Rattle.kmc_base.specs.Words.{window}
use Rattle.kmc_split.specs.Cut.{AreRuns}
use Rattle.kmc_split.specs.Rows.{MayFollow}
use Rattle.kmc_split.specs.Signature.{signature_of}
use Rattle.kmc_split.specs.Lemmas.Least.{no_symbols}
use Rattle.kmc_split.proofs.Whole.{one_row, whole_cut}
use Rattle.kmc_split.proofs.cutting.cut_whole.Goals as goal

pub returns : goal.returns
returns c = λ k codes count.
    let at : ℕ → ℕ = λ i. signature_of 0 (window k codes i) in
    on_ok_weaker c.push_row.result (λ h. whole_cut k c.args.words codes c.push_row.new.runs.items count h)
    (c.push_row.ensures.runs at (one_row k c.args.words codes) (no_symbols (window k codes 0) ∙ sym c.of_value.ensures)
    (subst (AreRuns at 0 0) (sym c.clear.ensures.items) refl)
    (subst (MayFollow c.of_value.result) (sym c.clear.ensures.items) tt))
