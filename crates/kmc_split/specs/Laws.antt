-- Laws of signatures and of the cut.
use Rattle.std.specs.Prelude.{◌≡◌, ℕ, ◌^◌, ◌<◌, ◌≤◌, List, length}
use Rattle.std.specs.List.{All}
use Rattle.kmc_base.specs.Words.{rev_comp, canonical, windows}
use Rattle.kmc_split.specs.declared.runs.Run.{Run}
use Rattle.kmc_split.specs.Signature.{signature_of}
use Rattle.kmc_split.specs.Cut.{IsCut, run_words, IsRunOf}

-- each signature is at most 4 ^ m
abbrev pub SignatureFits : Type 0
SignatureFits = (m : ℕ) (w : List ℕ) → signature_of m w ≤ 4 ^ m

-- a word and its reverse complement have one signature
abbrev pub StrandsShareSignature : Type 0
StrandsShareSignature = (m : ℕ) (w : List ℕ) → m ≤ length w → All (λ c. c < 4) w
    → signature_of m (rev_comp w) ≡ signature_of m w

-- words with one canonical form have one signature
abbrev pub CanonicalFixesSignature : Type 0
CanonicalFixesSignature = (m : ℕ) (v w : List ℕ) → m ≤ length w → All (λ c. c < 4) v → All (λ c. c < 4) w
    → canonical v ≡ canonical w → signature_of m v ≡ signature_of m w

-- a segment has a cut
abbrev pub CutExists : Type 0
CutExists = (k m : ℕ) (codes : List ℕ) → (runs : List Run) × IsCut k m codes runs

-- and no other
abbrev pub CutIsUnique : Type 0
CutIsUnique = (k m : ℕ) (codes : List ℕ) (runs other : List Run) → IsCut k m codes runs → IsCut k m codes other → runs ≡ other

-- the words of the runs of the cut, one after another, are the words of the segment in the order of their places
abbrev pub CutKeepsWords : Type 0
CutKeepsWords = (k m : ℕ) (codes : List ℕ) (runs : List Run) → 1 ≤ k → k ≤ length codes → IsCut k m codes runs
    → run_words k codes runs ≡ windows k codes

-- each run of the cut lies within the segment, has 1 to 256 words, and its signature is that of each of them
abbrev pub CutHasRuns : Type 0
CutHasRuns = (k m : ℕ) (codes : List ℕ) (runs : List Run) → 1 ≤ k → k ≤ length codes → IsCut k m codes runs
    → All (IsRunOf k m codes) runs
