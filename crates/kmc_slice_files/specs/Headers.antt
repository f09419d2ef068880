-- What is read of the header of a slice's file.
use Rattle.std.specs.Prelude.{◌≡◌, ◌≢◌, ℕ, ◌^◌, ◌<◌, List, ◌++◌, length, Option}
use Rattle.std.specs.Int.{w64, to_le_bytes}
use Rattle.std.specs.Io.KnownBytes.{Consumes, IsAtEnd}
use Rattle.kmc_device.specs.Device.{RisesByOne}
use Rattle.kmc_record.specs.Shapes.{Sizes, IsShape}
use Rattle.kmc_slice_files.specs.Check.{hashed}
use Rattle.kmc_slice_files.specs.Files.{LETTERS, VERSION, front_bytes}
use Rattle.kmc_slice_files.specs.declared.header.HeaderFault.{HeaderFault}
use Rattle.kmc_slice_files.specs.declared.header.HeaderFault.TheVariants.{Read, Short, NoSliceFile, OtherVersion, Damaged, OutOfRange}
use Rattle.kmc_slice_files.specs.declared.header.Slicing.{Slicing}
use Rattle.kmc_slice_files.specs.declared.header.Told.{Told}

-- the bytes before the check word
abbrev pub front_of : Told → List ℕ
front_of t = front_bytes t.letters t.version t.k t.m t.bins t.slices t.slice

abbrev pub sizes_of : Told → Sizes
sizes_of t = record { k = t.k; m = t.m; n = t.bins }

-- the bytes are those of a header of these numbers
pub record IsTold (t : Told) (bytes : List ℕ) : Type 0 where
  pub letters : t.letters < 2 ^ 64
  pub version : t.version < 2 ^ 32
  pub bins : t.bins < 2 ^ 16
  pub slices : t.slices < 2 ^ 16
  pub slice : t.slice < 2 ^ 16
  pub check : t.check < 2 ^ 64
  pub is : bytes ≡ front_of t ++ to_le_bytes w64 t.check

-- a shape that reads are cut by
abbrev pub IsMade : Sizes → Type 0
IsMade shape = IsShape shape.k shape.m shape.n

-- reads are cut by no such shape, or the slice is none of the slices
abbrev pub IsOutOfRange : Told → Type 0
IsOutOfRange t = IsMade (sizes_of t) → t.slice < t.slices → ⊥

-- the place that these numbers tell
pub record IsSlicingOf (t : Told) (h : Slicing) : Type 0 where
  pub shape : h.shape ≡ sizes_of t
  pub slices : h.slices ≡ t.slices
  pub slice : h.slice ≡ t.slice
  pub within : t.slice < t.slices
  pub made : IsShape h.shape.k h.shape.m h.shape.n

-- why bytes of a header's length are refused
abbrev pub Refuses : Told → HeaderFault → Type 0
Refuses t Read = ⊥
Refuses t Short = ⊥
Refuses t NoSliceFile = t.letters ≢ LETTERS
Refuses t (OtherVersion v) = (t.letters ≡ LETTERS) × (v ≡ t.version) × (v ≢ VERSION)
Refuses t Damaged = (t.letters ≡ LETTERS) × (t.version ≡ VERSION) × (t.check ≢ hashed 0 (front_of t))
Refuses t OutOfRange = (t.letters ≡ LETTERS) × (t.version ≡ VERSION) × (t.check ≡ hashed 0 (front_of t)) × IsOutOfRange t

abbrev pub IsRefusedHeader : List ℕ → HeaderFault → Type 0
IsRefusedHeader bytes e = (t : Told) × IsTold t bytes × Refuses t e

-- a whole header was read, and is refused
pub record GaveRefused (old new : Option (List ℕ)) (e : HeaderFault) : Type 0 where
  pub bytes : List ℕ
  pub gave : Consumes old new bytes
  pub why : IsRefusedHeader bytes e

-- why no header was read
abbrev pub IsHeaderFault : Option (List ℕ) → Option (List ℕ) → HeaderFault → Type 0
IsHeaderFault old new Read = (bytes : List ℕ) × Consumes old new bytes
IsHeaderFault old new Short = (bytes : List ℕ) × Consumes old new bytes × (length bytes < 28) × IsAtEnd new
IsHeaderFault old new NoSliceFile = GaveRefused old new NoSliceFile
IsHeaderFault old new (OtherVersion v) = GaveRefused old new (OtherVersion v)
IsHeaderFault old new Damaged = GaveRefused old new Damaged
IsHeaderFault old new OutOfRange = GaveRefused old new OutOfRange

-- what the reader's number of failures tells: it rises by one where a read failed, and else stays
abbrev pub HeaderTells : ℕ → ℕ → HeaderFault → Type 0
HeaderTells old new Read = RisesByOne old new
HeaderTells old new Short = new ≡ old
HeaderTells old new NoSliceFile = new ≡ old
HeaderTells old new (OtherVersion v) = new ≡ old
HeaderTells old new Damaged = new ≡ old
HeaderTells old new OutOfRange = new ≡ old
