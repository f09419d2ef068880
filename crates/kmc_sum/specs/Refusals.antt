-- The causes of refusals.
use Rattle.std.specs.Prelude.{◌≡◌, ◌≤◌, ◌-◌, ◌^◌, ℕ, ◌<◌, ◌⊎◌, List, [], ◌∷◌, length, Option}
use Rattle.std.specs.List.{sum_by}
use Rattle.kmc_device.specs.Device.{HasFailed}
use Rattle.kmc_sum.specs.Sources.{left_at, GaveFronts}
use Rattle.kmc_sum.specs.Faults.{GaveFront, IsFaultAt}
use Rattle.kmc_sum.specs.declared.error.LineFault.{LineFault}
use Rattle.kmc_sum.specs.declared.error.LineFault.TheVariants.{OtherLength}
use Rattle.kmc_sum.specs.declared.error.SourceFault.{SourceFault}
use Rattle.kmc_sum.specs.declared.error.SourceFault.TheVariants.{Line, Read}

-- the first line that the reader gave has a word of k letters
pub record BeginsWith (k : ℕ) (old new : Option (List ℕ)) : Type 0 where
  pub pair : List ℕ × ℕ
  pub rest : List ℕ
  pub gave : GaveFront k old new (pair ∷ []) rest

-- a line that was read before this one has a word of k letters: the first line of a source before this one, or of this source
pub record IsReadBefore (k : ℕ) (starts nows : List (Option (List ℕ))) (source line : ℕ) : Type 0 where
  pub first : ℕ
  pub before : (first < source) ⊎ ((first ≡ source) × (2 ≤ line))
  pub begins : BeginsWith k (left_at starts first) (left_at nows first)

-- in this source the lines before this one list pairs whose words have k letters and rise, and this line is at fault, and so;
-- where its word has another length, k is that of a line read before
pub record IsFirstLineFault (k : ℕ) (starts nows : List (Option (List ℕ))) (source line : ℕ) (fault : LineFault) : Type 0 where
  pub inside : source < length starts
  pub first : IsFaultAt k (left_at starts source) (left_at nows source) line fault
  pub length_read : fault ≡ OtherLength → IsReadBefore k starts nows source line

-- the readers gave the lines of these pairs first, more of them than are counted
pub record HaveTooMany (k : ℕ) (starts nows : List (Option (List ℕ))) : Type 0 where
  pub lists : List (List (List ℕ × ℕ))
  pub gave : GaveFronts k starts nows lists
  pub many : 2 ^ 64 - 2 ≤ sum_by length lists

-- how this source is at fault: a read of it failed, or its first line at fault is this one
abbrev pub IsFaultOf : ℕ → List (Option (List ℕ)) → List (Option (List ℕ)) → List ℕ → List ℕ → ℕ → SourceFault → Type 0
IsFaultOf k starts nows olds news source Read = HasFailed source olds news
IsFaultOf k starts nows olds news source (Line line fault) = IsFirstLineFault k starts nows source line fault
