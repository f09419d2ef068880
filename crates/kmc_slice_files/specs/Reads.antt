-- What is read of the file of a slice.
use Rattle.std.specs.Prelude.{◌≡◌, ℕ, ◌+◌, ◌%◌, ◌^◌, ◌<◌, ◌≤◌, List, ◌++◌, length, slice_set, Option, Some, None}
use Rattle.std.specs.Io.KnownBytes.{Consumes, IsAtEnd}
use Rattle.std.specs.List.{sum_by}
use Rattle.kmc_device.specs.Device.{RisesByOne}
use Rattle.kmc_store.specs.Bins.{body_at}
use Rattle.kmc_slice_files.specs.Frames.{Frame, IsFrame, MOST_BODY, NO_BIN, spare_head, frame_bytes, end_bytes}
use Rattle.kmc_slice_files.specs.declared.read.FrameFault.{FrameFault}
use Rattle.kmc_slice_files.specs.declared.read.FrameFault.TheVariants.{Read, Memory, Short, Damaged}
use Rattle.kmc_slice_files.specs.declared.read.Head.{Head}
use Rattle.kmc_slice_files.specs.declared.read.Said.{Said}
use Rattle.kmc_slice_files.specs.declared.read.Said.TheVariants.{Body, End, Neither}

-- the bytes are those of this head
pub record IsHeadOf (h : Head) (bytes : List ℕ) : Type 0 where
  pub bin : h.bin < 2 ^ 16
  pub spare : h.spare < 2 ^ 16
  pub long : h.long < 2 ^ 32
  pub check : h.check < 2 ^ 64
  pub is : bytes ≡ spare_head h.bin h.spare h.long h.check

-- neither a frame of the slice nor the end behind so many frames stands at the front of the bytes
pub record BeginsNothing (n S s count : ℕ) (bytes : List ℕ) : Type 0 where
  pub frame : (f : Frame) (rest : List ℕ) → IsFrame n S s f → bytes ≡ frame_bytes f ++ rest → ⊥
  pub end : (rest : List ℕ) → bytes ≡ end_bytes count ++ rest → ⊥

-- a frame with a body of so many bytes was read, and these stand behind what its bin had
pub record TookFrame (n S s long : ℕ) (old new : Option (List ℕ)) (bodies after : List (List ℕ)) : Type 0 where
  pub f : Frame
  pub is : IsFrame n S s f
  pub size : length f.body ≡ long
  pub gave : Consumes old new (frame_bytes f)
  pub bodies_after : after ≡ slice_set bodies f.bin (body_at bodies f.bin ++ f.body)

-- what is read next: a frame, or the end behind so many frames
abbrev pub TookNext : ℕ → ℕ → ℕ → ℕ → Option (List ℕ) → Option (List ℕ) → List (List ℕ) → List (List ℕ) → Option ℕ → Type 0
TookNext n S s count old new bodies after (Some long) = TookFrame n S s long old new bodies after
TookNext n S s count old new bodies after None = Consumes old new (end_bytes count) × (after ≡ bodies)

-- the reader gave bytes with which nothing begins, whatever follows
pub record GaveDamage (n S s count : ℕ) (old new : Option (List ℕ)) : Type 0 where
  pub bytes : List ℕ
  pub gave : Consumes old new bytes
  pub none : (rest : List ℕ) → BeginsNothing n S s count (bytes ++ rest)

-- the reader gave bytes and nothing follows; with these nothing begins
pub record GaveFront (n S s count : ℕ) (old new : Option (List ℕ)) : Type 0 where
  pub bytes : List ℕ
  pub gave : Consumes old new bytes
  pub ended : IsAtEnd new
  pub none : BeginsNothing n S s count bytes

-- the reader gave bytes, and memory holds as many more, but for one block
pub record GaveSome (before after block : ℕ) (old new : Option (List ℕ)) : Type 0 where
  pub bytes : List ℕ
  pub gave : Consumes old new bytes
  pub held : after ≤ before + length bytes + block

-- a head that begins a frame of this bin
pub record SaysFrame (n S s b : ℕ) (h : Head) : Type 0 where
  pub bin : h.bin ≡ b
  pub spare : h.spare ≡ 0
  pub within : b < n
  pub own : b % S ≡ s
  pub some : 1 ≤ h.long
  pub most : h.long ≤ MOST_BODY

-- a head that is the end behind so many frames
pub record SaysEnd (count : ℕ) (h : Head) : Type 0 where
  pub bin : h.bin ≡ NO_BIN
  pub spare : h.spare ≡ 0
  pub long : h.long ≡ 0
  pub check : h.check ≡ count

-- what a head says
abbrev pub IsSaid : ℕ → ℕ → ℕ → ℕ → Head → Said → Type 0
IsSaid n S s count h (Body b) = SaysFrame n S s b h
IsSaid n S s count h End = SaysEnd count h
IsSaid n S s count h Neither = (SaysFrame n S s h.bin h → ⊥) × (SaysEnd count h → ⊥)

-- a head was read
pub record TookHead (h : Head) (old new : Option (List ℕ)) : Type 0 where
  pub bytes : List ℕ
  pub gave : Consumes old new bytes
  pub is : IsHeadOf h bytes

-- the reader gave less than a head, and nothing follows
pub record GaveLess (old new : Option (List ℕ)) : Type 0 where
  pub bytes : List ℕ
  pub gave : Consumes old new bytes
  pub few : length bytes < 16
  pub ended : IsAtEnd new

-- the bytes in memory
abbrev pub held_bytes : List (List ℕ) → ℕ
held_bytes bodies = sum_by length bodies

-- a head was read that begins a frame of the slice, and not yet all of its body
pub record WantsMore (n S s : ℕ) (old new : Option (List ℕ)) : Type 0 where
  pub h : Head
  pub b : ℕ
  pub mid : Option (List ℕ)
  pub head : TookHead h old mid
  pub says : SaysFrame n S s b h
  pub body : List ℕ
  pub gave : Consumes mid new body
  pub less : length body < h.long

-- why no head was read
abbrev pub IsHeadFault : Option (List ℕ) → Option (List ℕ) → FrameFault → Type 0
IsHeadFault old new Read = (bytes : List ℕ) × Consumes old new bytes
IsHeadFault old new Memory = ⊥
IsHeadFault old new Short = GaveLess old new
IsHeadFault old new Damaged = ⊥

-- why no body of so many bytes was read
abbrev pub IsBodyFault : ℕ → Option (List ℕ) → Option (List ℕ) → FrameFault → Type 0
IsBodyFault long old new Read = Unit {0}
IsBodyFault long old new Memory = (bytes : List ℕ) × (length bytes < long) × Consumes old new bytes
IsBodyFault long old new Short = (bytes : List ℕ) × (length bytes < long) × Consumes old new bytes × IsAtEnd new
IsBodyFault long old new Damaged = ⊥

-- why neither a frame nor the end behind so many frames was read
abbrev pub IsFrameFault : ℕ → ℕ → ℕ → ℕ → Option (List ℕ) → Option (List ℕ) → FrameFault → Type 0
IsFrameFault n S s count old new Read = Unit {0}
IsFrameFault n S s count old new Memory = WantsMore n S s old new
IsFrameFault n S s count old new Short = GaveFront n S s count old new
IsFrameFault n S s count old new Damaged = GaveDamage n S s count old new

-- what the reader's number of failures tells: it rises by one where a read failed, and else stays
abbrev pub TellsOfReader : ℕ → ℕ → FrameFault → Type 0
TellsOfReader old new Read = RisesByOne old new
TellsOfReader old new Memory = new ≡ old
TellsOfReader old new Short = new ≡ old
TellsOfReader old new Damaged = new ≡ old
