-- The frames of a slice's file, byte by byte.
use Rattle.std.specs.Prelude.{◌≡◌, ℕ, ◌%◌, ◌^◌, ◌<◌, ◌≤◌, nat_eq, List, ◌++◌, length}
use Rattle.std.specs.Int.{w16, w32, w64, to_le_bytes}
use Rattle.std.specs.List.{AllByRecursion, filter, flat_map}
use Rattle.kmc_record.specs.Parts.{capped}
use Rattle.kmc_slice_files.specs.Check.{hashed}

-- bytes of the records of a bin
pub record Frame : Type 0 where
  pub bin : ℕ
  pub body : List ℕ

abbrev pub frame : ℕ → List ℕ → Frame
frame bin body = record { bin = bin; body = body }

-- the check word of a frame: that of its body, whose seed is the bin
abbrev pub check_of : ℕ → List ℕ → ℕ
check_of bin body = hashed bin body

-- sixteen bytes of four numbers
unfoldable pub spare_head : ℕ → ℕ → ℕ → ℕ → List ℕ
spare_head bin spare long check = to_le_bytes w16 bin ++ to_le_bytes w16 spare ++ to_le_bytes w32 long ++ to_le_bytes w64 check

-- what stands before a body
abbrev pub head_bytes : ℕ → ℕ → ℕ → List ℕ
head_bytes bin long check = spare_head bin 0 long check

-- of bin 3 with the body 7, 9: 3, 0, 0, 0, 2, 0, 0, 0, the eight bytes of the check word, 7, 9
abbrev pub frame_bytes : Frame → List ℕ
frame_bytes f = head_bytes f.bin (length f.body) (check_of f.bin f.body) ++ f.body

-- the number of no bin
abbrev pub NO_BIN : ℕ
NO_BIN = 65535

-- the most bytes of a frame's body
abbrev pub MOST_BODY : ℕ
MOST_BODY = 2 ^ 20

-- behind the last of so many frames
abbrev pub end_bytes : ℕ → List ℕ
end_bytes n = head_bytes NO_BIN 0 (capped n)

abbrev pub frames_bytes : List Frame → List ℕ
frames_bytes fs = flat_map frame_bytes fs

-- a frame that slice s of S may have, of n bins
pub record IsFrame (n S s : ℕ) (f : Frame) : Type 0 where
  pub within : f.bin < n
  pub own : f.bin % S ≡ s
  pub some : 1 ≤ length f.body
  pub most : length f.body ≤ MOST_BODY

abbrev pub AreFrames : ℕ → ℕ → ℕ → List Frame → Type 0
AreFrames n S s fs = AllByRecursion (IsFrame n S s) fs

-- the bytes of a bin, frame after frame
abbrev pub body_of : ℕ → List Frame → List ℕ
body_of b fs = flat_map (λ f. f.body) (filter (λ f. nat_eq f.bin b) fs)
