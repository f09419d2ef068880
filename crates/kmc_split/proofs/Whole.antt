-- Segments for m-mers of no symbols.
use Rattle.std.proofs.Common.{◌≡◌, ℕ, ◌+◌, ◌-◌, List, length, subst, sym, ◌∙◌, arith}
use Rattle.kmc_base.specs.Words.{window}
use Rattle.kmc_split.specs.declared.runs.Run.{Run}
use Rattle.kmc_split.specs.Cut.{AreRuns, IsCut}
use Rattle.kmc_split.specs.Rows.{IsRow}
use Rattle.kmc_split.specs.Signature.{signature_of}
use Rattle.kmc_split.specs.Lemmas.Least.{no_symbols}

-- all words are a row
pub one_row : (k n : ℕ) (codes : List ℕ) → IsRow (λ i. signature_of 0 (window k codes i)) 0 n
one_row k n codes i from to = no_symbols (window k codes i) ∙ sym (no_symbols (window k codes 0))

-- the runs of as many words as the segment has
pub whole_cut : (k n : ℕ) (codes : List ℕ) (runs : List Run) → n + k ≡ length codes + 1
    → AreRuns (λ i. signature_of 0 (window k codes i)) 0 n runs → IsCut k 0 codes runs
whole_cut k n codes runs count h =
    let end : n ≡ length codes + 1 - k = omega arith in
    subst (λ (e : ℕ). AreRuns (λ i. signature_of 0 (window k codes i)) 0 e runs) end h
