-- A text that is read in rounds.
use Rattle.std.specs.Prelude.{◌≡◌, ℕ, ◌-◌, ◌*◌, ◌^◌, ◌≤◌, min, List, [], length, Option, None, Ok}
use Rattle.std.specs.List.{flat_map}
use Rattle.std.specs.Io.KnownBytes.{Consumes}
use Rattle.kmc_device.specs.Device.{GaveAll}
use Rattle.kmc_reads.specs.declared.format.Format.{Format}
use Rattle.kmc_reads.specs.Cuts.{AreCut}
use Rattle.kmc_reads.specs.Reads.{reads_of}
use Rattle.kmc_reads.specs.Stages.{fault}
use Rattle.kmc_base.specs.Pieces.{pieces}
use Rattle.kmc_record.specs.Shapes.{Sizes}
use Rattle.kmc_store.specs.Bins.{BinList}
use Rattle.kmc_store.specs.Holds.{HoldsReads}
use Rattle.kmc_reads.specs.declared.input_error.InputError.{InputError}
use Rattle.kmc_reads.specs.declared.input_error.InputError.TheVariants.{Memory, Read, Faulty, TooLong}
use Rattle.kmc_stage_one.specs.Fed.{IsRefused}

-- so many reads fill a round: a batch for each splitter, as far as 64 bits tell
abbrev pub reads_of_round : ℕ → ℕ → ℕ
reads_of_round splitters batch = min (splitters * batch) (2 ^ 64 - 1)

-- the bins hold the reads, each as its pieces of at most so many symbols
abbrev pub HoldsPieces : Sizes → ℕ → List (List ℕ) → List (List ℕ) → Type 0
HoldsPieces shape limit reads bodies = HoldsReads shape (flat_map (pieces shape.k limit) reads) bodies

-- the bins hold the reads of all that the reader gave, of which some were cut while they came
pub record HoldsInput (format : Format) (shape : Sizes) (limit : ℕ) (old new : Option (List ℕ)) (bins : BinList) : Type 0 where
  pub bytes : List ℕ
  pub given : GaveAll old new bytes
  pub reads : List (List ℕ)
  pub are_reads : reads_of format bytes ≡ Ok reads
  pub cuts : List (List ℕ)
  pub cut : AreCut (shape.k - 1) reads cuts
  pub shaped : bins.shape ≡ shape
  pub holds : HoldsPieces shape limit cuts bins.bodies

-- why an input gave no bins: it is refused, or so many reads gave bytes, which have no fault
abbrev pub IsInputError : Format → ℕ → Option (List ℕ) → Option (List ℕ) → InputError → Type 0
IsInputError format most old new Memory = Unit {0}
IsInputError format most old new Read = Unit {0}
IsInputError format most old new (Faulty e) = IsRefused format old new [] e
IsInputError format most old new TooLong = (bytes : List ℕ) × Consumes old new bytes × (most ≤ length bytes) × (fault format bytes ≡ None)
