use Rattle.std.proofs.Common.{List, map, take}
use Rattle.kmc_split.specs.declared.runs.Run.{Run}
use Rattle.kmc_record.specs.Parts.{AreCuts, bin_super_kmers, all_segments}
use Rattle.kmc_record.specs.GrowingParts.{HaveGrown}
use Rattle.kmc_record.proofs.parts.parts_of_reads.Given as goal

abbrev pub invariant-loop-read : goal.invariant-loop-read
invariant-loop-read l = (cuts : List (List Run)) × AreCuts l.shape.k l.shape.m (all_segments l.shape.k (map (λ r. r.now) (take l.read-index l.reads))) cuts
    × HaveGrown l.shape.k (λ j. bin_super_kmers l.shape.k l.shape.n j
    (all_segments l.shape.k (map (λ r. r.now) (take l.read-index l.reads))) cuts) l.initial.parts.items l.parts.items
