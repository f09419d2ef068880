-- What is read of the files of one slice.
use Rattle.std.specs.Prelude.{◌≡◌, ℕ, ◌<◌, List, [], length, replicate, Option}
use Rattle.std.specs.Io.KnownBytes.{Consumes}
use Rattle.std.specs.List.{AllZip, flat_map}
use Rattle.kmc_device.specs.Device.{GaveAll}
use Rattle.kmc_record.specs.Shapes.{Sizes}
use Rattle.kmc_store.specs.Bins.{body_at}
use Rattle.kmc_slice_files.specs.Frames.{Frame, AreFrames, body_of}
use Rattle.kmc_slice_files.specs.Files.{IsSlicing, header_bytes, file_bytes}
use Rattle.kmc_slice_files.specs.Headers.{IsHeaderFault}
use Rattle.kmc_slice_files.specs.Whole.{IsFaultBehind, SliceTells}
use Rattle.kmc_slice_files.specs.declared.slice.SliceFault.{SliceFault}
use Rattle.kmc_slice_files.specs.declared.slice.SliceFault.TheVariants.{Header, Other, File as Behind}
use Rattle.kmc_slices.specs.declared.gathering.GatherError.{GatherError}
use Rattle.kmc_slices.specs.declared.gathering.GatherError.TheVariants.{Memory, File}

-- the place of a slice, and for each bin of its shape the records that were read
pub record Records : Type 0 where
  pub shape : Sizes
  pub slices : ℕ
  pub slice : ℕ
  pub bodies : List (List ℕ)

-- what `SliceRecords` can hold
pub record AreRecords (shape : Sizes) (S s : ℕ) (bodies : List (List ℕ)) : Type 0 where
  pub slicing : IsSlicing shape S s
  pub wide : length bodies ≡ shape.n

-- a reader, before and after, gave all its bytes: the file of slice s of S with these frames
pub record GaveSlice (shape : Sizes) (S s : ℕ) (reading : Option (List ℕ) × Option (List ℕ)) (fs : List Frame) : Type 0 where
  pub frames : AreFrames shape.n S s fs
  pub gave : GaveAll reading.0 reading.1 (file_bytes shape S s fs)

-- the readers gave files of the slice, and the records of each bin are the bodies of its frames, in the order of the files
pub record AreGathered (readings : List (Option (List ℕ) × Option (List ℕ))) (r : Records) : Type 0 where
  pub files : List (List Frame)
  pub gave : AllZip (GaveSlice r.shape r.slices r.slice) readings files
  pub each : (b : ℕ) → b < r.shape.n → body_at r.bodies b ≡ flat_map (body_of b) files

abbrev pub IsOfSlice : Records → Records → Type 0
IsOfSlice old new = (new.shape ≡ old.shape) × (new.slices ≡ old.slices) × (new.slice ≡ old.slice)

-- the first fault of a file, whatever slice it tells of
abbrev pub IsFirstFileFault : Option (List ℕ) → Option (List ℕ) → SliceFault → Type 0
IsFirstFileFault old new (Header e) = IsHeaderFault old new e
IsFirstFileFault old new (Other h) = ⊥
IsFirstFileFault old new (Behind e) = (shape : Sizes) × (S s : ℕ) × IsSlicing shape S s × IsFaultBehind shape S s old new (replicate shape.n []) e

-- the header of a slice was read, and nothing behind it
abbrev pub GaveHeader : Option (List ℕ) → Option (List ℕ) → Type 0
GaveHeader old new = (shape : Sizes) × (S s : ℕ) × IsSlicing shape S s × Consumes old new (header_bytes shape S s)

-- what the reader's number of failures tells
abbrev pub Tells : ℕ → ℕ → GatherError → Type 0
Tells old new Memory = new ≡ old
Tells old new (File fault) = SliceTells old new fault
