-- Rows of neighbouring places with one value, and the last of some runs.
use Rattle.std.specs.Prelude.{◌≡◌, ◌≢◌, ℕ, ◌<◌, ◌≤◌, List, [], ◌∷◌}
use Rattle.kmc_split.specs.declared.runs.Run.{Run}

-- the places from p to before q have the value of place p
abbrev pub IsRow : (ℕ → ℕ) → ℕ → ℕ → Type 0
IsRow at p q = (i : ℕ) → p ≤ i → i < q → at i ≡ at p

-- the places at which the maximal rows from place p on end, but for the last one, which ends at `end`
abbrev pub AreRowEnds : (ℕ → ℕ) → ℕ → ℕ → List ℕ → Type 0
AreRowEnds at p end [] = (p < end) × IsRow at p end
AreRowEnds at p end (q ∷ qs) = (p < q) × IsRow at p q × (at p ≢ at q) × AreRowEnds at q end qs

-- what holds of the last run, where there is one
abbrev pub Last : (Run → Type 0) → List Run → Type 0
Last P [] = Unit {0}
Last P (r ∷ []) = P r
Last P (r ∷ s ∷ rs) = Last P (s ∷ rs)

-- a run of this signature may follow
abbrev pub MayFollow : ℕ → List Run → Type 0
MayFollow signature runs = Last (λ r. r.signature ≡ signature → r.words ≡ 256) runs
