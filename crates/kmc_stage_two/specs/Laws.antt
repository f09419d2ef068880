-- Laws of packed lists, and of counting by bins.
use Rattle.std.specs.Prelude.{ℕ, List, map, ◌≡◌, ◌-◌, ◌≤◌}
use Rattle.std.specs.List.{All, AllZip}
use Rattle.kmc_base.specs.declared.strands.Strands.{Strands}
use Rattle.kmc_reads.specs.Cuts.{AreCut}
use Rattle.kmc_record.specs.Shapes.{Sizes}
use Rattle.kmc_base.specs.Record.{IsBodyOf}
use Rattle.kmc_record.specs.RecordWords.{record_keys}
use Rattle.kmc_store.specs.Bins.{AreBins}
use Rattle.kmc_store.specs.Holds.{HoldsReads}
use Rattle.kmc_count.specs.declared.limits.Limits.{Limits}
use Rattle.kmc_count.specs.Occurrences.{occurrences, count_of}
use Rattle.kmc_count.specs.Dump.{IsDump}
use Rattle.kmc_count.specs.Merge.{AreApart, AreDumps, IsMerged, joined}
use Rattle.kmc_lists.specs.Listed.{Listed, spelled, pairs_of, IsListOf}
use Rattle.kmc_lists.specs.Ordered.{CanBeMerged, whole}

-- the whole of lists is their merged list
abbrev pub WholeIsMerged : Type 0
WholeIsMerged = (k : ℕ) (lists : List Listed) → CanBeMerged k lists → IsMerged (map (λ c. spelled k c.packed) lists) (spelled k (whole lists))

-- lists of words that share none are counted list by list: the whole of their dumps is the dump of all of them
abbrev pub PackedDumpsAreOne : Type 0
PackedDumpsAreOne = (l : Limits) (k : ℕ) (wss : List (List (List ℕ))) (lists : List Listed)
    → All (IsListOf k) lists → AreDumps l wss (map pairs_of lists) → AreApart wss
    → CanBeMerged k lists × IsDump (occurrences (joined wss)) l (spelled k (whole lists))

-- in bins that hold reads a word has as many places as in the reads
abbrev pub HeldReadsAreCounted : Type 0
HeldReadsAreCounted = (strands : Strands) (shape : Sizes) (reads bodies : List (List ℕ)) (sss : List (List (List ℕ)))
    → 1 ≤ shape.k → 1 ≤ shape.n → HoldsReads shape reads bodies → AllZip (IsBodyOf shape.k) sss bodies
    → (x : List ℕ) → occurrences (joined (map (record_keys strands shape.k) sss)) x ≡ count_of strands shape.k reads x

-- reads, and the same cut in pieces that overlap by k - 1 symbols, have one direct count
abbrev pub CutReadsAreCounted : Type 0
CutReadsAreCounted = (strands : Strands) (k : ℕ) (reads cuts : List (List ℕ)) → 1 ≤ k → AreCut (k - 1) reads cuts
    → (x : List ℕ) → count_of strands k cuts x ≡ count_of strands k reads x

-- the keys of different bins differ
abbrev pub BinsShareNoKey : Type 0
BinsShareNoKey = (strands : Strands) (shape : Sizes) (bodies : List (List ℕ)) (words : List ℕ) (sss : List (List (List ℕ)))
    → shape.m ≤ shape.k → AreBins shape bodies words → AllZip (IsBodyOf shape.k) sss bodies
    → AreApart (map (record_keys strands shape.k) sss)
