-- What it means that bins hold reads.
use Rattle.std.specs.Prelude.{◌≡◌, ℕ, ◌<◌, List, length}
use Rattle.std.specs.List.{sum_by}
use Rattle.kmc_split.specs.declared.runs.Run.{Run}
use Rattle.kmc_base.specs.Record.{IsBodyOf}
use Rattle.kmc_record.specs.Shapes.{Sizes}
use Rattle.kmc_record.specs.Parts.{AreCuts, bin_super_kmers, all_segments}
use Rattle.kmc_store.specs.Bins.{body_at}

-- the lists have the same members, each as often in the one as in the other: any sum over the one is that over the other
abbrev pub SameMembers : {A : Type 0} → List A → List A → Type 0
SameMembers {A} xs ys = (F : A → ℕ) → sum_by F xs ≡ sum_by F ys

-- the records of each bin are those of the reads' runs of that bin, each as often, in any order. Of the read ACGTACGT, words
-- of 4 symbols over 7 bins: bin 2 has GTAC, bin 3 CGTA and TACG, bin 6 ACGT and ACGT, and the others nothing
pub record HoldsReads (shape : Sizes) (reads : List (List ℕ)) (bodies : List (List ℕ)) : Type 0 where
  pub wide : length bodies ≡ shape.n
  pub cuts : List (List Run)
  pub cut : AreCuts shape.k shape.m (all_segments shape.k reads) cuts
  pub records : ℕ → List (List ℕ)
  pub each : (i : ℕ) → i < shape.n → IsBodyOf shape.k (records i) (body_at bodies i)
  pub same : (i : ℕ) → i < shape.n → SameMembers (records i) (bin_super_kmers shape.k shape.n i (all_segments shape.k reads) cuts)
