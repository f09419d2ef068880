-- What is read of all frames of a slice's file.
use Rattle.std.specs.Prelude.{◌≡◌, ℕ, ◌+◌, ◌-◌, ◌^◌, ◌<◌, ◌≤◌, List, ◌++◌, length, Option}
use Rattle.std.specs.Io.KnownBytes.{Consumes}
use Rattle.kmc_device.specs.Device.{GaveAll}
use Rattle.kmc_record.specs.Parts.{capped}
use Rattle.kmc_record.specs.Shapes.{Sizes}
use Rattle.kmc_store.specs.Bins.{body_at}
use Rattle.kmc_slice_files.specs.Frames.{Frame, AreFrames, frames_bytes, end_bytes, body_of}
use Rattle.kmc_slice_files.specs.Files.{IsSlicing, header_bytes, file_bytes}
use Rattle.kmc_slice_files.specs.Headers.{IsHeaderFault, HeaderTells}
use Rattle.kmc_slice_files.specs.Reads.{IsFrameFault, TellsOfReader, held_bytes}
use Rattle.kmc_slice_files.specs.declared.header.Slicing.{Slicing}
use Rattle.kmc_slice_files.specs.declared.slice.SliceFault.{SliceFault}
use Rattle.kmc_slice_files.specs.declared.slice.SliceFault.TheVariants.{Header, Other, File}
use Rattle.kmc_slice_files.specs.declared.read.FrameFault.TheVariants.{Read}
use Rattle.kmc_slice_files.specs.declared.frames.Place.{Place}
use Rattle.kmc_slice_files.specs.declared.frames.FileFault.{FileFault}
use Rattle.kmc_slice_files.specs.declared.frames.FramesFault.{FramesFault}
use Rattle.kmc_slice_files.specs.declared.frames.FramesFault.TheVariants.{Next, Behind, TooMany}

-- the body of each bin stands behind what the bin had
pub record HaveMore (before after : List (List ℕ)) (fs : List Frame) : Type 0 where
  pub wide : length after ≡ length before
  pub each : (b : ℕ) → b < length before → body_at after b ≡ body_at before b ++ body_of b fs

-- frames were read, and the next one begins at this place
pub record TookFrames (n S s : ℕ) (old new : Option (List ℕ)) (before after : List (List ℕ)) (place : Place) : Type 0 where
  pub fs : List Frame
  pub frames : AreFrames n S s fs
  pub gave : Consumes old new (frames_bytes fs)
  pub many : place.frames ≡ length fs
  pub byte : place.byte ≡ capped (28 + length (frames_bytes fs))
  pub bodies : HaveMore before after fs
  pub held : held_bytes after ≤ held_bytes before + length (frames_bytes fs)

-- frames were read and then the end, which begins at this place
pub record TookAll (n S s : ℕ) (old new : Option (List ℕ)) (before after : List (List ℕ)) (place : Place) : Type 0 where
  pub mid : Option (List ℕ)
  pub took : TookFrames n S s old mid before after place
  pub ended : Consumes mid new (end_bytes place.frames)

-- the reader gave frames and the end, and nothing is left of it
pub record GaveFrames (n S s : ℕ) (old new : Option (List ℕ)) (before after : List (List ℕ)) : Type 0 where
  pub fs : List Frame
  pub frames : AreFrames n S s fs
  pub gave : GaveAll old new (frames_bytes fs ++ end_bytes (length fs))
  pub bodies : HaveMore before after fs

-- why the end of the bytes was not read
abbrev pub IsEndFault : Option (List ℕ) → Option (List ℕ) → FramesFault → Type 0
IsEndFault old new (Next f) = (f ≡ Read) × (bytes : List ℕ) × Consumes old new bytes
IsEndFault old new Behind = (bytes : List ℕ) × (1 ≤ length bytes) × Consumes old new bytes
IsEndFault old new TooMany = ⊥

-- what is at fault behind so many frames
abbrev pub IsFramesFault : ℕ → ℕ → ℕ → ℕ → Option (List ℕ) → Option (List ℕ) → FramesFault → Type 0
IsFramesFault n S s count old new (Next f) = IsFrameFault n S s count old new f
IsFramesFault n S s count old new Behind = (bytes : List ℕ) × (1 ≤ length bytes) × Consumes old new (end_bytes count ++ bytes)
IsFramesFault n S s count old new TooMany = count ≡ 2 ^ 64 - 1

-- frames were read, and what is behind them is at fault
pub record IsFileFault (n S s : ℕ) (old new : Option (List ℕ)) (before : List (List ℕ)) (e : FileFault) : Type 0 where
  pub mid : Option (List ℕ)
  pub middle : List (List ℕ)
  pub took : TookFrames n S s old mid before middle e.place
  pub why : IsFramesFault n S s e.place.frames mid new e.why

-- what the reader's number of failures tells
abbrev pub FileTells : ℕ → ℕ → FramesFault → Type 0
FileTells old new (Next f) = TellsOfReader old new f
FileTells old new Behind = new ≡ old
FileTells old new TooMany = new ≡ old

-- the reader gave all its bytes, those of the file of slice s of S, whose bodies stand behind what the bins had
pub record GaveFile (shape : Sizes) (S s : ℕ) (old new : Option (List ℕ)) (before after : List (List ℕ)) : Type 0 where
  pub fs : List Frame
  pub frames : AreFrames shape.n S s fs
  pub gave : GaveAll old new (file_bytes shape S s fs)
  pub bodies : HaveMore before after fs

-- the header was read, and what is behind it is at fault
pub record IsFaultBehind (shape : Sizes) (S s : ℕ) (old new : Option (List ℕ)) (before : List (List ℕ)) (e : FileFault) : Type 0 where
  pub mid : Option (List ℕ)
  pub header : Consumes old mid (header_bytes shape S s)
  pub fault : IsFileFault shape.n S s mid new before e

-- a header was read that tells of another shape or place
pub record IsOther (shape : Sizes) (S s : ℕ) (old new : Option (List ℕ)) (h : Slicing) : Type 0 where
  pub is : IsSlicing h.shape h.slices h.slice
  pub gave : Consumes old new (header_bytes h.shape h.slices h.slice)
  pub differs : (h.shape ≡ shape) × (h.slices ≡ S) × (h.slice ≡ s) → ⊥

-- the first fault of what should be the file of slice s of S
abbrev pub IsSliceFault : Sizes → ℕ → ℕ → Option (List ℕ) → Option (List ℕ) → List (List ℕ) → SliceFault → Type 0
IsSliceFault shape S s old new before (Header e) = IsHeaderFault old new e
IsSliceFault shape S s old new before (Other h) = IsOther shape S s old new h
IsSliceFault shape S s old new before (File e) = IsFaultBehind shape S s old new before e

-- what the reader's number of failures tells
abbrev pub SliceTells : ℕ → ℕ → SliceFault → Type 0
SliceTells old new (Header e) = HeaderTells old new e
SliceTells old new (Other h) = new ≡ old
SliceTells old new (File e) = FileTells old new e.why
