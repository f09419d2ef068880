-- The cut of a segment into runs of words of one signature.
use Rattle.std.specs.Prelude.{◌≡◌, ℕ, ◌+◌, ◌-◌, ◌<◌, ◌≤◌, List, [], ◌∷◌, length}
use Rattle.std.specs.List.{All, flat_map}
use Rattle.kmc_base.specs.Words.{window, windows}
use Rattle.kmc_split.specs.declared.runs.Run.{Run}
use Rattle.kmc_split.specs.Signature.{signature_of}

-- the words of the run, of which there are 1 to 256, have its signature
pub record IsRunAt (at : ℕ → ℕ) (r : Run) : Type 0 where
  pub some : 1 ≤ r.words
  pub most : r.words ≤ 256
  pub one : (i : ℕ) → r.start ≤ i → i < r.start + r.words → at i ≡ r.signature

-- a run is followed by one of its own signature only where it has 256 words
abbrev pub IsLongOrOther : Run → List Run → Type 0
IsLongOrOther r [] = Unit {0}
IsLongOrOther r (s ∷ rs) = r.signature ≡ s.signature → r.words ≡ 256

-- the runs follow one another from place p to the end, for the signature at each place
abbrev pub AreRuns : (ℕ → ℕ) → ℕ → ℕ → List Run → Type 0
AreRuns at p end [] = p ≡ end
AreRuns at p end (r ∷ rs) = (r.start ≡ p) × IsRunAt at r × IsLongOrOther r rs × AreRuns at (p + r.words) end rs

-- the runs are the cut of a segment
abbrev pub IsCut : ℕ → ℕ → List ℕ → List Run → Type 0
IsCut k m codes runs = AreRuns (λ i. signature_of m (window k codes i)) 0 (length codes + 1 - k) runs

-- the codes that the words of a run stand in: neighbouring words share k - 1 of them
abbrev pub run_codes : ℕ → List ℕ → Run → List ℕ
run_codes k codes r = window (r.words + (k - 1)) codes r.start

-- the words of the runs, one run after another
abbrev pub run_words : ℕ → List ℕ → List Run → List (List ℕ)
run_words k codes runs = flat_map (λ r. windows k (run_codes k codes r)) runs

-- what holds of each run of the cut of a segment
pub record IsRunOf (k m : ℕ) (codes : List ℕ) (r : Run) : Type 0 where
  pub some : 1 ≤ r.words
  pub most : r.words ≤ 256
  pub inside : r.start + (r.words + (k - 1)) ≤ length codes
  pub one : All (λ w. signature_of m w ≡ r.signature) (windows k (run_codes k codes r))
