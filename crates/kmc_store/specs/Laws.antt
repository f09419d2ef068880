-- Laws of bins.
use Rattle.std.specs.Prelude.{◌≡◌, ℕ, ◌*◌, ◌<◌, ◌≤◌, List, [], ◌∷◌, ◌++◌, length, map, bytes_eq}
use Rattle.std.specs.List.{count_by}
use Rattle.kmc_split.specs.declared.runs.Run.{Run}
use Rattle.kmc_base.specs.Record.{spelling, IsBodyOf}
use Rattle.kmc_record.specs.Shapes.{Sizes}
use Rattle.kmc_record.specs.Parts.{Parcel, AreCuts, bin_super_kmers, all_segments}
use Rattle.kmc_store.specs.Bins.{BinList, body_at, empty_bins, Absorbed, Merged}
use Rattle.kmc_store.specs.Bodies.{AreAdded}
use Rattle.kmc_store.specs.Holds.{HoldsReads}
use Rattle.kmc_store.specs.Deals.{AreDealt, AreGathered}

-- bins that hold reads, merged with bins that hold more, hold both
abbrev pub MergedBinsHoldBoth : Type 0
MergedBinsHoldBoth = (shape : Sizes) (reads more : List (List ℕ)) (old other new : BinList)
    → HoldsReads shape reads old.bodies → HoldsReads shape more other.bodies → Merged old other new → HoldsReads shape (reads ++ more) new.bodies

-- empty bins hold no reads
abbrev pub EmptyBinsHoldNoReads : Type 0
EmptyBinsHoldNoReads = (shape : Sizes) → HoldsReads shape [] (empty_bins shape).bodies

-- each writer has sent the parts of its chunks, and the chunks are all reads: bins that held other reads, with the bodies
-- of what was got added, hold these too
abbrev pub GatheredPartsHoldReads : Type 0
GatheredPartsHoldReads = (shape : Sizes) (batch : ℕ) (held reads : List (List ℕ)) (sp chunks : ℕ) (sent : ℕ → List Parcel) (got : List Parcel)
    (before bodies : List (List ℕ))
    → 1 ≤ shape.k → 0 < sp → length reads ≤ chunks * batch → ((w : ℕ) → w < sp → AreDealt shape batch reads sp w chunks (sent w))
    → AreGathered sp sent got → HoldsReads shape held before → AreAdded shape before bodies got → HoldsReads shape (held ++ reads) bodies

-- bins are themselves with the bodies of no parts added
abbrev pub NoPartsAreAdded : Type 0
NoPartsAreAdded = (shape : Sizes) (bodies : List (List ℕ)) → length bodies ≡ shape.n → AreAdded shape bodies bodies []

-- where bins to which parts were added absorb a part, that is added too
abbrev pub AbsorbedPartIsAdded : Type 0
AbsorbedPartIsAdded = (shape : Sizes) (before : List (List ℕ)) (old new : BinList) (parts : List Parcel) (part : Parcel)
    → AreAdded shape before old.bodies parts → Absorbed old part new → AreAdded shape before new.bodies (parts ++ part ∷ [])

-- bins to which parts were added, merged with bins of other parts alone, are those to which both were added
abbrev pub MergedPartsAreAdded : Type 0
MergedPartsAreAdded = (shape : Sizes) (before : List (List ℕ)) (old other new : BinList) (parts others : List Parcel)
    → AreAdded shape before old.bodies parts → AreAdded shape (empty_bins shape).bodies other.bodies others → Merged old other new
    → AreAdded shape before new.bodies (parts ++ others)

-- however its body is read, a byte list stands among the records of a bin as often as among those of the reads' runs of
-- that bin
abbrev pub HeldRecordsAreTheRuns : Type 0
HeldRecordsAreTheRuns = (shape : Sizes) (reads bodies super_kmers : List (List ℕ)) (cuts : List (List Run)) (i : ℕ) (bytes : List ℕ)
    → HoldsReads shape reads bodies → i < shape.n → IsBodyOf shape.k super_kmers (body_at bodies i) → AreCuts shape.k shape.m (all_segments shape.k reads) cuts
    → count_by (bytes_eq bytes) (map (spelling shape.k) super_kmers)
    ≡ count_by (bytes_eq bytes) (map (spelling shape.k) (bin_super_kmers shape.k shape.n i (all_segments shape.k reads) cuts))
