-- What the program that lists a slice does.
use Rattle.std.specs.Prelude.{◌≡◌, ◌⊎◌, ◌<◌, ℕ, Bool, true, false, List, Option, Some, None, length, slice_index_or}
use Rattle.std.specs.Io.KnownBytes.{Appends}
use Rattle.kmc_device.specs.Device.{AppendsFront, RisesByOne, Watched}
use Rattle.kmc_lists.specs.Line.{text_of}
use Rattle.kmc_options.specs.declared.program.Program.TheVariants.{KmcList}
use Rattle.kmc_options.specs.declared.run_params.Params.{Params}
use Rattle.kmc_options.specs.declared.setting.Setting.{Setting}
use Rattle.kmc_options.specs.Words.{Word}
use Rattle.kmc_store.specs.Bins.{AreBins}
use Rattle.kmc_slices.specs.Outside.{IsBinFault}
use Rattle.kmc_stage_two.specs.Stages.{IsDumpOfBins}
use Rattle.kmc_slice_files.specs.Whole.{IsSliceFault}
use Rattle.kmc_slice_files.specs.declared.slice.SliceFault.{SliceFault}
use Rattle.kmc_options.specs.Requests.{AsksForList, IsListRequest, IsOutOfRange}
use Rattle.kmc_options.specs.declared.slices.listing.ListRequest.{ListRequest}
use Rattle.kmc_options.specs.declared.slices.listing.ListRequestError.TheVariants.{Usage, OutOfRange, Memory}
use Rattle.kmc_slices.specs.Gathered.{AreGathered, GaveHeader, IsFirstFileFault, Records}
use Rattle.kmc_slices.specs.declared.listing.ListError.{ListError}
use Rattle.kmc_slices.specs.declared.listing.ListError.TheVariants.{Foreign, Memory as NoMemory, Write}
use Rattle.kmc_slices.specs.declared.programs.list_fault.ListFault.{ListFault}
use Rattle.kmc_slices.specs.declared.programs.list_fault.ListFault.TheVariants.{Request, NotOpened, File, Dump}

-- what is known of the files, by their numbers: of one that was opened what its reader has left, where that is known; none of one that was not
abbrev pub Openings : Type 1
Openings = ℕ → Option (Option (List ℕ)) → Type 0

-- what a reader that was opened has left, where that is known
abbrev pub left_of : {R : Type 0} → (R → Option (List ℕ)) → Option (Watched R) → Option (Option (List ℕ))
left_of remaining None = None
left_of remaining (Some reader) = Some (remaining reader.inner)

-- what is known of readers that a call opens by their numbers, by what it answers
abbrev pub opened_by : {R : Type 0} → (R → Option (List ℕ)) → (ℕ → Option (Watched R) → Type 0) → Openings
opened_by {R = R} remaining opens i left = (reader : Option (Watched R)) × opens i reader × (left ≡ left_of remaining reader)

-- nothing is known: no contract names what a file has
abbrev pub of_files : Openings
of_files i left = Unit {0}

-- the readings are of the openings of their numbers
pub record AreOpened (openings : Openings) (readings : List (Option (List ℕ) × Option (List ℕ))) : Type 0 where
  pub each : (i : ℕ) → i < length readings → openings i (Some (slice_index_or readings i (None, None)).0)

-- so many files gave the records of one slice, and the pairs are their dump
pub record AreListed (openings : Openings) (files : ℕ) (params : Params) (pairs : List (List ℕ × ℕ)) : Type 0 where
  pub readings : List (Option (List ℕ) × Option (List ℕ))
  pub many : length readings ≡ files
  pub opened : AreOpened openings readings
  pub records : Records
  pub gathered : AreGathered readings records
  pub dump : IsDumpOfBins params.strands records.shape.k params.limits records.bodies pairs

-- the dump of so many files of one slice was written
pub record IsListed (openings : Openings) (files : ℕ) (params : Params) (old new : Option (List ℕ)) : Type 0 where
  pub pairs : List (List ℕ × ℕ)
  pub are : AreListed openings files params pairs
  pub out : Appends old new (text_of pairs)

-- a write failed once, and a front of the dump of these records is out
pub record LeavesFront {W : Type 0} (r : Records) (params : Params) (contents : W → Option (List ℕ)) (writer written : Watched W) : Type 0 where
  pub pairs : List (List ℕ × ℕ)
  pub dump : IsDumpOfBins params.strands r.shape.k params.limits r.bodies pairs
  pub out : AppendsFront (contents writer.inner) (contents written.inner) (text_of pairs)
  pub failed : RisesByOne writer.failures written.failures

-- a fault of the first file, or memory for the records was refused behind its header
abbrev pub IsOfFirst : Openings → ListFault → Type 0
IsOfFirst openings fault =
    ((fault ≡ Dump NoMemory) × (old new : Option (List ℕ)) × openings 0 (Some old) × GaveHeader old new)
    ⊎ (((fault ≡ NotOpened 0) × openings 0 None)
    ⊎ ((e : SliceFault) × (fault ≡ File 0 e) × (old new : Option (List ℕ)) × openings 0 (Some old) × IsFirstFileFault old new e))

-- a fault of the file of this number, behind files that gave these records
abbrev pub IsOfNext : Openings → ℕ → Records → ListFault → Type 0
IsOfNext openings i r fault = ((fault ≡ NotOpened i) × openings i None)
    ⊎ ((e : SliceFault) × (fault ≡ File i e) × (old new : Option (List ℕ)) × openings i (Some old)
    × IsSliceFault r.shape r.slices r.slice old new r.bodies e)

-- so many files gave the records of one slice, and the next one is at fault
pub record IsBehind (openings : Openings) (i : ℕ) (fault : ListFault) : Type 0 where
  pub readings : List (Option (List ℕ) × Option (List ℕ))
  pub many : length readings ≡ i
  pub opened : AreOpened openings readings
  pub records : Records
  pub gathered : AreGathered readings records
  pub next : IsOfNext openings i records fault

-- a fault of one of so many files
abbrev pub IsOfFiles : Openings → ℕ → ListFault → Type 0
IsOfFiles openings n fault = IsOfFirst openings fault ⊎ ((i : ℕ) × (i < n) × IsBehind openings i fault)

-- why the dump of records was not written, and what was: all bins were judged before memory for it was refused
abbrev pub IsDumpFault : {W : Type 0} → Records → Params → (W → Option (List ℕ)) → Watched W → Watched W → ListError → Type 0
IsDumpFault r params contents writer written (Foreign fault) = IsBinFault r.shape r.bodies fault × (written ≡ writer)
IsDumpFault r params contents writer written NoMemory = ((words : List ℕ) × AreBins r.shape r.bodies words) × (written ≡ writer)
IsDumpFault r params contents writer written Write = LeavesFront r params contents writer written

-- so many files gave the records of one slice, and this is why their dump was not written
pub record IsUnlisted {W : Type 0} (openings : Openings) (files : ℕ) (params : Params) (contents : W → Option (List ℕ)) (writer written : Watched W)
    (e : ListError) : Type 0 where
  pub readings : List (Option (List ℕ) × Option (List ℕ))
  pub many : length readings ≡ files
  pub opened : AreOpened openings readings
  pub records : Records
  pub gathered : AreGathered readings records
  pub why : IsDumpFault records params contents writer written e

-- why so many files were not listed: one of them is at fault, and nothing was written, or the dump of the records of all was not
abbrev pub IsListFault : {W : Type 0} → Openings → ℕ → Params → (W → Option (List ℕ)) → Watched W → Watched W → ListFault → Type 0
IsListFault openings n params contents writer written fault = (IsOfFiles openings n fault × (written ≡ writer))
    ⊎ ((e : ListError) × (fault ≡ Dump e) × IsUnlisted openings n params contents writer written e)

-- why the words' files were not listed: memory was refused before they were understood, and nothing was written; or the listing failed
abbrev pub FailsToList : {W : Type 0} → (W → Option (List ℕ)) → List Word → Watched W → Watched W → Type 0
FailsToList contents words writer written =
    (written ≡ writer) ⊎ ((r : ListRequest) × IsListRequest words r × (fault : ListFault)
    × IsListFault of_files (length r.files.items) r.params contents writer written fault)

-- the words ask for nothing: they are no usage, or an option is out of its range
abbrev pub AsksForNothing : List Word → Type 0
AsksForNothing words = (AsksForList words → ⊥) ⊎ ((s : Setting) × IsOutOfRange KmcList words s)

-- the command line is at fault; want of memory says nothing of it
abbrev pub is_misuse : ListFault → Bool
is_misuse (Request Usage) = true
is_misuse (Request (OutOfRange s)) = true
is_misuse (Request Memory) = false
is_misuse (NotOpened i) = false
is_misuse (File i e) = false
is_misuse (Dump e) = false

-- a write of the dump failed
abbrev pub is_unwritten : ListFault → Bool
is_unwritten (Request e) = false
is_unwritten (NotOpened i) = false
is_unwritten (File i e) = false
is_unwritten (Dump (Foreign fault)) = false
is_unwritten (Dump NoMemory) = false
is_unwritten (Dump Write) = true
