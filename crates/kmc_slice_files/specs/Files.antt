-- The file of a slice: slice s of S is the bins b with b mod S = s.
use Rattle.std.specs.Prelude.{◌≡◌, ℕ, ◌%◌, ◌^◌, ◌<◌, ◌≤◌, List, [], ◌∷◌, ◌++◌, length}
use Rattle.std.specs.Int.{w16, w32, w64, to_le_bytes}
use Rattle.kmc_record.specs.Shapes.{Sizes, IsShape}
use Rattle.kmc_store.specs.Bins.{body_at}
use Rattle.kmc_slice_files.specs.Check.{hashed}
use Rattle.kmc_slice_files.specs.Frames.{Frame, AreFrames, frames_bytes, end_bytes, body_of}

-- the letters KMCSLICE as a number, the first letter lowest
abbrev pub LETTERS : ℕ
LETTERS = 4990913404219903307

-- the version that this is
abbrev pub VERSION : ℕ
VERSION = 1

-- twenty bytes of seven numbers
unfoldable pub front_bytes : ℕ → ℕ → ℕ → ℕ → ℕ → ℕ → ℕ → List ℕ
front_bytes letters version k m n S s =
    to_le_bytes w64 letters ++ to_le_bytes w32 version ++ ((k ∷ m ∷ []) ++ to_le_bytes w16 n) ++ (to_le_bytes w16 S ++ to_le_bytes w16 s)

-- these twenty bytes of the file of a slice
abbrev pub slicing_bytes : Sizes → ℕ → ℕ → List ℕ
slicing_bytes shape S s = front_bytes LETTERS VERSION shape.k shape.m shape.n S s

-- the letters, the version, the shape, the number of slices and that of this one, and the check word of these: 28 bytes
abbrev pub header_bytes : Sizes → ℕ → ℕ → List ℕ
header_bytes shape S s = slicing_bytes shape S s ++ to_le_bytes w64 (hashed 0 (slicing_bytes shape S s))

-- the file of these frames
abbrev pub file_bytes : Sizes → ℕ → ℕ → List Frame → List ℕ
file_bytes shape S s fs = header_bytes shape S s ++ (frames_bytes fs ++ end_bytes (length fs))

-- what a header can tell
pub record IsSlicing (shape : Sizes) (S s : ℕ) : Type 0 where
  pub sizes : IsShape shape.k shape.m shape.n
  pub some : 1 ≤ S
  pub most : S < 2 ^ 16
  pub within : s < S

-- the bytes of each bin of the slice are those of its frames, in their order
pub record HasBodies (shape : Sizes) (S s : ℕ) (bodies : List (List ℕ)) (fs : List Frame) : Type 0 where
  pub frames : AreFrames shape.n S s fs
  pub each : (b : ℕ) → b < shape.n → b % S ≡ s → body_of b fs ≡ body_at bodies b

-- the bytes are the file of a slice of bins with these bodies. Of three bins in two slices, with the bodies 5, 6 and none
-- and 8, slice 0 is the header, the frames of the bins 0 and 2 and the end, slice 1 the header and the end; so are the
-- same with two frames of bin 0, of 5 and of 6
pub record IsSliceFile (shape : Sizes) (S s : ℕ) (bodies : List (List ℕ)) (bytes : List ℕ) : Type 0 where
  pub slicing : IsSlicing shape S s
  pub fs : List Frame
  pub has : HasBodies shape S s bodies fs
  pub is : bytes ≡ file_bytes shape S s fs
