-- Files of slices, of parts of reads and back to bins.
use Rattle.std.specs.Prelude.{◌≡◌, ℕ, ◌-◌, ◌<◌, List, [], length, map, slice_index_or}
use Rattle.std.specs.List.{AllZip, flat_map}
use Rattle.kmc_base.specs.declared.strands.Strands.{Strands}
use Rattle.kmc_reads.specs.Cuts.{AreCut}
use Rattle.kmc_record.specs.Shapes.{Sizes}
use Rattle.kmc_store.specs.Bins.{AreBins, body_at}
use Rattle.kmc_count.specs.declared.limits.Limits.{Limits}
use Rattle.kmc_slice_files.specs.Files.{IsSlicing, IsSliceFile, file_bytes}
use Rattle.kmc_slice_files.specs.Frames.{Frame, AreFrames, body_of}
use Rattle.kmc_stage_one.specs.Rounds.{HoldsPieces}
use Rattle.kmc_stage_two.specs.Stages.{IsDumpOfBins}

-- a part of the reads was cut to the files of S slices, each read as its pieces of at most so many symbols
pub record AreCutTo (shape : Sizes) (limit S : ℕ) (reads files : List (List ℕ)) : Type 0 where
  pub cuts : List (List ℕ)
  pub cut : AreCut (shape.k - 1) reads cuts
  pub bodies : List (List ℕ)
  pub words : List ℕ
  pub bins : AreBins shape bodies words
  pub holds : HoldsPieces shape limit cuts bodies
  pub each : (s : ℕ) → s < S → IsSliceFile shape S s bodies (slice_index_or files s [])

-- the bytes are the file of these frames of slice s of S
pub record IsFileOf (shape : Sizes) (S s : ℕ) (file : List ℕ) (fs : List Frame) : Type 0 where
  pub frames : AreFrames shape.n S s fs
  pub is : file ≡ file_bytes shape S s fs

-- files of slice s of S were read: for each bin the bodies of its frames, file after file
pub record AreRead (shape : Sizes) (S s : ℕ) (files bodies : List (List ℕ)) : Type 0 where
  pub slicing : IsSlicing shape S s
  pub fss : List (List Frame)
  pub each : AllZip (IsFileOf shape S s) files fss
  pub wide : length bodies ≡ shape.n
  pub joined : (b : ℕ) → b < shape.n → body_at bodies b ≡ flat_map (body_of b) fss

-- the files of one slice, of each part one
abbrev pub files_of : ℕ → List (List (List ℕ)) → List (List ℕ)
files_of s parts = map (λ files. slice_index_or files s []) parts

-- the pairs are the dump, within the limits, of what is read of the files of slice s of S
pub record IsDumpOfFiles (strands : Strands) (shape : Sizes) (l : Limits) (S s : ℕ) (files : List (List ℕ)) (pairs : List (List ℕ × ℕ)) : Type 0 where
  pub bodies : List (List ℕ)
  pub read : AreRead shape S s files bodies
  pub dump : IsDumpOfBins strands shape.k l bodies pairs
