-- Reads of which some are cut in pieces.
use Rattle.std.specs.Prelude.{◌≡◌, ℕ, ◌+◌, List, ◌++◌, length, Option, None, Some, Ok, Err}
use Rattle.std.specs.List.{sum_by}
use Rattle.kmc_reads.specs.Answer.{Answer}

-- a number of a read that is the sum of those of two pieces which overlap by so many symbols, as the number of places where
-- a word of one symbol more stands
abbrev pub AddsUp : ℕ → (List ℕ → ℕ) → Type 0
AddsUp overlap F = (a b c : List ℕ) → length b ≡ overlap → F (a ++ (b ++ c)) ≡ F (a ++ b) + F (b ++ c)

-- some of the reads may be cut in pieces that overlap by so many symbols: whatever adds up is as much in the ones as in the others
abbrev pub AreCut : ℕ → List (List ℕ) → List (List ℕ) → Type 0
AreCut overlap reads cuts = (F : List ℕ → ℕ) → AddsUp overlap F → sum_by F reads ≡ sum_by F cuts

-- the same of answers: both are reads, or one refusal
abbrev pub IsCutAnswer : ℕ → Answer → Answer → Type 0
IsCutAnswer overlap (Ok reads) (Ok cuts) = AreCut overlap reads cuts
IsCutAnswer overlap (Ok reads) (Err f) = ⊥
IsCutAnswer overlap (Err e) (Ok cuts) = ⊥
IsCutAnswer overlap (Err e) (Err f) = e ≡ f

-- the reads of an answer, by how they are handed out: whole, or some of them in pieces that overlap by so many symbols
abbrev pub AreReadsBy : Option ℕ → Answer → List (List ℕ) → Type 0
AreReadsBy None answer reads = answer ≡ Ok reads
AreReadsBy (Some overlap) answer reads = (whole : List (List ℕ)) × (answer ≡ Ok whole) × AreCut overlap whole reads
