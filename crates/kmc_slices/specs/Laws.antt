-- The laws of slices.
use Rattle.std.specs.Prelude.{◌≡◌, ℕ, ◌<◌, ◌≤◌, ◌^◌, List, [], ◌∷◌, ◌++◌, length, slice_index_or, Option, Some, Ok}
use Rattle.std.specs.List.{AllByRecursion, AllZip}
use Rattle.kmc_base.specs.declared.strands.Strands.{Strands}
use Rattle.kmc_reads.specs.declared.format.Format.{Format}
use Rattle.kmc_reads.specs.Reads.{reads_of}
use Rattle.kmc_record.specs.Shapes.{Sizes, IsShape}
use Rattle.kmc_count.specs.declared.limits.Limits.{Limits}
use Rattle.kmc_count.specs.Occurrences.{count_of}
use Rattle.kmc_count.specs.Dump.{IsDump}
use Rattle.kmc_count.specs.Merge.{joined}
use Rattle.kmc_device.specs.Device.{GaveAll, IsFront}
use Rattle.kmc_sum.specs.Sum.{sum_of}
use Rattle.kmc_sum.specs.Laws.{ListsEach}
use Rattle.kmc_slice_files.specs.Files.{IsSlicing, IsSliceFile, header_bytes}
use Rattle.kmc_slice_files.specs.Frames.{Frame, AreFrames, frames_bytes}
use Rattle.kmc_slice_files.specs.Writes.{held_at}
use Rattle.kmc_slices.specs.Cut.{WroteSlices}
use Rattle.kmc_slices.specs.Files.{AreCutTo, AreRead, IsDumpOfFiles, files_of}
use Rattle.kmc_slices.specs.Gathered.{AreGathered, AreRecords, Records}
use Rattle.kmc_slices.specs.Slices.{Part, IsCutTo, IsDumpOfSlice, all_reads}

-- parts of reads, each cut to bins; a dump within the limits of each slice of all of them; the sum of these dumps, each
-- count listed, is the dump within the limits of all the reads
abbrev pub SlicesAreWhole : Type 0
SlicesAreWhole = (strands : Strands) (shape : Sizes) (every l : Limits) (S : ℕ) (parts : List Part) (lists : List (List (List ℕ × ℕ)))
    (pairs : List (List ℕ × ℕ))
    → IsShape shape.k shape.m shape.n → 1 ≤ S → ListsEach every → 1 ≤ l.cs → l.cs ≤ 2 ^ 63 → AllByRecursion (IsCutTo shape) parts
    → length lists ≡ S → ((s : ℕ) → s < S → IsDumpOfSlice strands shape l S s parts (slice_index_or lists s []))
    → IsDump (sum_of lists) every pairs → IsDump (count_of strands shape.k (all_reads parts)) l pairs

-- where there is one slice, its dump within the limits is, with no merge, that of all the reads, as a run over them all gives it
abbrev pub OneSliceIsWhole : Type 0
OneSliceIsWhole = (strands : Strands) (shape : Sizes) (l : Limits) (parts : List Part) (pairs : List (List ℕ × ℕ))
    → IsShape shape.k shape.m shape.n → AllByRecursion (IsCutTo shape) parts
    → IsDumpOfSlice strands shape l 1 0 parts pairs → IsDump (count_of strands shape.k (all_reads parts)) l pairs

-- parts of reads, each cut to the files of slices; for each slice a dump within the limits of what is read of its files, of each
-- part one; the sum of these dumps, each count listed, is the dump within the limits of all the reads
abbrev pub FilesAreWhole : Type 0
FilesAreWhole = (strands : Strands) (shape : Sizes) (limit : ℕ) (every l : Limits) (S : ℕ) (parts files : List (List (List ℕ)))
    (lists : List (List (List ℕ × ℕ))) (pairs : List (List ℕ × ℕ))
    → IsShape shape.k shape.m shape.n → shape.k ≤ limit → 1 ≤ S → ListsEach every → 1 ≤ l.cs → l.cs ≤ 2 ^ 63 → AllZip
    (AreCutTo shape limit S) parts files
    → length lists ≡ S → ((s : ℕ) → s < S → IsDumpOfFiles strands shape l S s (files_of s files) (slice_index_or lists s []))
    → IsDump (sum_of lists) every pairs → IsDump (count_of strands shape.k (joined parts)) l pairs

-- the file of a slice is that of one shape, number of slices and slice: what is read of one has those of the part that it was cut from
abbrev pub FileTellsSlice : Type 0
FileTellsSlice = (shape other : Sizes) (S s T t : ℕ) (bodies others : List (List ℕ)) (file : List ℕ) → IsSliceFile shape S s bodies file
    → AreRead other T t (file ∷ []) others → (other ≡ shape) × (T ≡ S) × (t ≡ s)

-- a front of the header and of frames is no file of a slice
abbrev pub UnendedIsNoFile : Type 0
UnendedIsNoFile = (shape other : Sizes) (S s T t : ℕ) (fs : List Frame) (bodies : List (List ℕ)) (text : List ℕ) → IsSlicing shape S s
    → AreFrames shape.n S s fs
    → IsFront text (header_bytes shape S s ++ frames_bytes fs) → IsSliceFile other T t bodies text → ⊥

-- where the files were empty before, what was written to them is the cut of the reads of all that the reader gave
abbrev pub WrittenSlicesAreCut : Type 0
WrittenSlicesAreCut = (format : Format) (shape : Sizes) (limit S : ℕ) (old new : Option (List ℕ)) (olds news : List (Option (List ℕ)))
    (files : List (List ℕ))
    → WroteSlices format shape limit S old new olds news
    → ((s : ℕ) → s < S → held_at olds s ≡ Some []) → ((s : ℕ) → s < S → held_at news s ≡ Some (slice_index_or files s []))
    → (bytes : List ℕ) × (reads : List (List ℕ)) × GaveAll old new bytes × (reads_of format bytes ≡ Ok reads) × AreCutTo shape limit S reads files

-- the files that were gathered, where their bytes are known, are the files that were read
abbrev pub GatheredFilesAreRead : Type 0
GatheredFilesAreRead = (readings : List (Option (List ℕ) × Option (List ℕ))) (files : List (List ℕ)) (r : Records)
    → AreRecords r.shape r.slices r.slice r.bodies → AreGathered readings r → AllZip (λ file reading. reading.0 ≡ Some file) files readings
    → AreRead r.shape r.slices r.slice files r.bodies
