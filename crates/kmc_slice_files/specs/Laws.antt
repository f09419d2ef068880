-- Laws of the files of slices.
use Rattle.std.specs.Prelude.{◌≡◌, ◌≢◌, ℕ, ◌<◌, ◌%◌, ◌^◌, if◌then◌else◌, nat_eq, List, [], ◌∷◌, ◌++◌, length, slice_index, slice_set, Option, Some}
use Rattle.std.specs.List.{AllByRecursion}
use Rattle.kmc_record.specs.Shapes.{Sizes}
use Rattle.kmc_slice_files.specs.Check.{hashed}
use Rattle.kmc_store.specs.Bins.{body_at}
use Rattle.kmc_slice_files.specs.Frames.{Frame, AreFrames}
use Rattle.kmc_slice_files.specs.Files.{IsSlicing, IsSliceFile, file_bytes}
use Rattle.kmc_slice_files.specs.Headers.{IsMade}
use Rattle.kmc_slice_files.specs.Whole.{GaveFile, IsSliceFault}
use Rattle.kmc_slice_files.specs.declared.header.HeaderFault.{HeaderFault}
use Rattle.kmc_slice_files.specs.declared.header.HeaderFault.TheVariants.{Read as NoHeaderRead, Short as ShortHeader, NoSliceFile, OtherVersion, Damaged as DamagedHeader, OutOfRange}
use Rattle.kmc_slice_files.specs.declared.read.FrameFault.{FrameFault}
use Rattle.kmc_slice_files.specs.declared.read.FrameFault.TheVariants.{Read as NoFrameRead, Memory, Short as ShortFrame, Damaged as DamagedFrame}
use Rattle.kmc_slice_files.specs.declared.frames.FramesFault.{FramesFault}
use Rattle.kmc_slice_files.specs.declared.frames.FramesFault.TheVariants.{Next, Behind, TooMany}
use Rattle.kmc_slice_files.specs.declared.slice.SliceFault.{SliceFault}
use Rattle.kmc_slice_files.specs.declared.slice.SliceFault.TheVariants.{Header, Other, File}

-- a text begins with one file at most: what it is of is told by its bytes, and a file behind whose end bytes stand is none
abbrev pub FilesAreOne : Type 0
FilesAreOne = (shape other : Sizes) (S s T t : ℕ) (fs gs : List Frame) (rest more : List ℕ)
    → IsSlicing shape S s → IsSlicing other T t → AreFrames shape.n S s fs → AreFrames other.n T t gs
    → file_bytes shape S s fs ++ rest ≡ file_bytes other T t gs ++ more
    → (shape ≡ other) × (S ≡ T) × (s ≡ t) × (fs ≡ gs) × (rest ≡ more)

-- a file is of one shape and slice, and of one body for each of its bins
abbrev pub FilesHaveOneMeaning : Type 0
FilesHaveOneMeaning = (shape other : Sizes) (S s T t : ℕ) (bodies others : List (List ℕ)) (bytes : List ℕ)
    → IsSliceFile shape S s bodies bytes → IsSliceFile other T t others bytes
    → (shape ≡ other) × (S ≡ T) × (s ≡ t) × ((b : ℕ) → b < shape.n → b % S ≡ s → body_at bodies b ≡ body_at others b)

-- what was cut short is no file of a slice, and what goes on behind its end is none
abbrev pub FrontsAreNoFiles : Type 0
FrontsAreNoFiles = (shape other : Sizes) (S s T t : ℕ) (bodies others : List (List ℕ)) (front : List ℕ) (b : ℕ) (rest : List ℕ)
    → IsSliceFile shape S s bodies (front ++ b ∷ rest) → IsSliceFile other T t others front → ⊥

-- what is read of a file is what was written: the body of each bin of the slice stands behind what the bin had, and the
-- other bins have what they had
abbrev pub FilesAreReadAsWritten : Type 0
FilesAreReadAsWritten = (shape : Sizes) (S s : ℕ) (bodies before after : List (List ℕ)) (bytes : List ℕ) (new : Option (List ℕ))
    → IsSliceFile shape S s bodies bytes → GaveFile shape S s (Some bytes) new before after → length before ≡ shape.n
    → (b : ℕ) → b < shape.n → body_at after b ≡ body_at before b ++ (if nat_eq (b % S) s then body_at bodies b else [])

-- faults of the machine: a read failed, memory was refused, or there are more frames than 64 bits count
abbrev pub IsHeaderOfMachine : HeaderFault → Type 0
IsHeaderOfMachine NoHeaderRead = Unit {0}
IsHeaderOfMachine ShortHeader = ⊥
IsHeaderOfMachine NoSliceFile = ⊥
IsHeaderOfMachine (OtherVersion v) = ⊥
IsHeaderOfMachine DamagedHeader = ⊥
IsHeaderOfMachine OutOfRange = ⊥

abbrev pub IsFrameOfMachine : FrameFault → Type 0
IsFrameOfMachine NoFrameRead = Unit {0}
IsFrameOfMachine Memory = Unit {0}
IsFrameOfMachine ShortFrame = ⊥
IsFrameOfMachine DamagedFrame = ⊥

abbrev pub AreFramesOfMachine : FramesFault → Type 0
AreFramesOfMachine (Next f) = IsFrameOfMachine f
AreFramesOfMachine Behind = ⊥
AreFramesOfMachine TooMany = Unit {0}

abbrev pub IsOfMachine : SliceFault → Type 0
IsOfMachine (Header e) = IsHeaderOfMachine e
IsOfMachine (Other h) = ⊥
IsOfMachine (File e) = AreFramesOfMachine e.why

-- of a file of the shape and place that are expected, where settings make such a shape, only faults of the machine are told
abbrev pub SoundFilesAreTaken : Type 0
SoundFilesAreTaken = (shape : Sizes) (S s : ℕ) (bodies before : List (List ℕ)) (bytes : List ℕ) (new : Option (List ℕ)) (e : SliceFault)
    → IsMade shape → IsSliceFile shape S s bodies bytes → IsSliceFault shape S s (Some bytes) new before e → IsOfMachine e

-- of bytes of which one is another the check word is another: of a header, whose seed is 0, and of a frame, whose seed is its bin
abbrev pub ChangedBytesAreTold : Type 0
ChangedBytesAreTold = (seed : ℕ) (bytes : List ℕ) (i b : ℕ) → seed < 2 ^ 64 → AllByRecursion (λ x. x < 256) bytes → i < length bytes → b < 256
    → b ≢ slice_index bytes i → hashed seed (slice_set bytes i b) ≢ hashed seed bytes
