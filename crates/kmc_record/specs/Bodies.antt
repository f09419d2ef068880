-- Why a body is not that of a part.
use Rattle.std.specs.Prelude.{◌≡◌, ℕ, ◌<◌, ◌++◌, List, length, take, drop}
use Rattle.std.specs.List.{All}
use Rattle.kmc_base.specs.Words.{windows}
use Rattle.kmc_split.specs.Signature.{bin_of}
use Rattle.kmc_base.specs.Record.{spelling, IsSpelled, IsBodyOf}
use Rattle.kmc_record.specs.Faults.{HasFault}
use Rattle.kmc_record.specs.Shapes.{Sizes}
use Rattle.kmc_record.specs.Parts.{all_windows}
use Rattle.kmc_record.specs.declared.part_error.PartError.{PartError}
use Rattle.kmc_record.specs.declared.part_error.PartError.TheVariants.{Damaged, WrongBin, Memory}

-- each of these words has a signature of the bin
abbrev pub Belong : ℕ → Sizes → List (List ℕ) → Type 0
Belong bin shape words = All (λ w. bin_of shape.m shape.n w ≡ bin) words

-- the bytes are whole records, all of whose words belong to the bin
pub record AreRecordsOfBin (bin : ℕ) (shape : Sizes) (bytes : List ℕ) : Type 0 where
  pub super_kmers : List (List ℕ)
  pub records : IsBodyOf shape.k super_kmers bytes
  pub belong : Belong bin shape (all_windows shape.k super_kmers)

-- the bytes begin with a whole record, a word of which belongs to another bin
pub record BeginsWithOtherBin (bin : ℕ) (shape : Sizes) (bytes : List ℕ) : Type 0 where
  pub codes : List ℕ
  pub rest : List ℕ
  pub spelled : IsSpelled shape.k codes
  pub is : bytes ≡ spelling shape.k codes ++ rest
  pub other : ¬ (Belong bin shape (windows shape.k codes))

-- the first fault: all is well before the offset, and there this is wrong; want of memory is no fault of a body
abbrev pub IsFirstError : ℕ → Sizes → PartError → List ℕ → Type 0
IsFirstError bin shape (Damaged fault offset) body = (offset < length body) × AreRecordsOfBin bin shape (take offset body) × HasFault shape.k fault
    (drop offset body)
IsFirstError bin shape (WrongBin offset) body = (offset < length body) × AreRecordsOfBin bin shape (take offset body) × BeginsWithOtherBin bin shape
    (drop offset body)
IsFirstError bin shape Memory body = ⊥
