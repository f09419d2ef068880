-- What is written of bins to the files of their slices.
use Rattle.std.specs.Prelude.{◌≡◌, ℕ, ◌+◌, ◌%◌, ◌<◌, ◌≤◌, if◌then◌else◌, nat_lt, nat_eq, List, [], ◌++◌, length, slice_index, slice_index_or, Option, None}
use Rattle.std.specs.List.{AllByRecursion, flat_map}
use Rattle.std.specs.Io.KnownBytes.{Appends}
use Rattle.kmc_device.specs.Device.{AppendsFront}
use Rattle.kmc_record.specs.Parts.{capped}
use Rattle.kmc_record.specs.Shapes.{Sizes}
use Rattle.kmc_store.specs.Bins.{body_at}
use Rattle.kmc_slice_files.specs.Frames.{Frame, AreFrames, MOST_BODY, frames_bytes, body_of}
use Rattle.kmc_slice_files.specs.Files.{header_bytes, HasBodies, IsSliceFile}

-- a frame of a bin
pub record IsOfBin (b : ℕ) (f : Frame) : Type 0 where
  pub bin : f.bin ≡ b
  pub some : 1 ≤ length f.body
  pub most : length f.body ≤ MOST_BODY

abbrev pub AreOfBin : ℕ → List Frame → Type 0
AreOfBin b fs = AllByRecursion (IsOfBin b) fs

-- the bodies of frames, one after the other
abbrev pub joined_bodies : List Frame → List ℕ
joined_bodies fs = flat_map (λ f. f.body) fs

-- these bytes of a bin went out, in so many frames
pub record IsBinWritten (b : ℕ) (body : List ℕ) (n : ℕ) (old new : Option (List ℕ)) : Type 0 where
  pub fs : List Frame
  pub of_bin : AreOfBin b fs
  pub bytes : joined_bodies fs ≡ body
  pub many : n ≡ length fs
  pub written : Appends old new (frames_bytes fs)

-- a front of frames of a bin went out
pub record IsBinBegun (b : ℕ) (old new : Option (List ℕ)) : Type 0 where
  pub fs : List Frame
  pub of_bin : AreOfBin b fs
  pub written : AppendsFront old new (frames_bytes fs)

-- what a writer holds, where that is known
abbrev pub held_at : List (Option (List ℕ)) → ℕ → Option (List ℕ)
held_at held s = slice_index_or held s None

-- each of S writers got frames of its slice: those of a bin below b have its body, the other bins have none; and so many
-- frames more are counted
pub record AreFramed (n S b : ℕ) (bodies : List (List ℕ)) (olds news : List (Option (List ℕ))) (counts counted : List ℕ) : Type 0 where
  pub fs : ℕ → List Frame
  pub frames : (s : ℕ) → s < S → AreFrames n S s (fs s)
  pub each : (s i : ℕ) → s < S → i < n → body_of i (fs s) ≡ (if nat_lt i b then (if nat_eq (i % S) s then body_at bodies i else []) else [])
  pub many : (s : ℕ) → s < S → slice_index counted s ≡ capped (slice_index counts s + length (fs s))
  pub written : (s : ℕ) → s < S → Appends (held_at olds s) (held_at news s) (frames_bytes (fs s))

-- each of S writers got a front of frames of its slice, so no end
pub record AreBegun (n S : ℕ) (olds news : List (Option (List ℕ))) : Type 0 where
  pub fs : ℕ → List Frame
  pub frames : (s : ℕ) → s < S → AreFrames n S s (fs s)
  pub written : (s : ℕ) → s < S → AppendsFront (held_at olds s) (held_at news s) (frames_bytes (fs s))

-- each of S writers got its text
abbrev pub EachGot : (ℕ → List ℕ) → ℕ → List (Option (List ℕ)) → List (Option (List ℕ)) → Type 0
EachGot text S olds news = (s : ℕ) → s < S → Appends (held_at olds s) (held_at news s) (text s)

-- each of S writers got a front of its text
abbrev pub EachBegan : (ℕ → List ℕ) → ℕ → List (Option (List ℕ)) → List (Option (List ℕ)) → Type 0
EachBegan text S olds news = (s : ℕ) → s < S → AppendsFront (held_at olds s) (held_at news s) (text s)

-- each of S writers got the header of its slice and frames, which are counted and hold the bodies of the slice's bins
pub record AreOpen (shape : Sizes) (S : ℕ) (bodies : List (List ℕ)) (olds news : List (Option (List ℕ))) (counts : List ℕ) : Type 0 where
  pub fs : ℕ → List Frame
  pub has : (s : ℕ) → s < S → HasBodies shape S s bodies (fs s)
  pub many : (s : ℕ) → s < S → slice_index counts s ≡ capped (length (fs s))
  pub written : (s : ℕ) → s < S → Appends (held_at olds s) (held_at news s) (header_bytes shape S s ++ frames_bytes (fs s))

-- each of S writers got the file of its slice of bins with these bodies
abbrev pub AreFiles : Sizes → ℕ → List (List ℕ) → List (Option (List ℕ)) → List (Option (List ℕ)) → Type 0
AreFiles shape S bodies olds news = (s : ℕ) → s < S
    → (bytes : List ℕ) × IsSliceFile shape S s bodies bytes × Appends (held_at olds s) (held_at news s) bytes
