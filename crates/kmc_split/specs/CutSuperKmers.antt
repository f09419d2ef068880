-- The super-k-mers of a segment.
use Rattle.std.specs.Prelude.{◌≡◌, ℕ, List, map}
use Rattle.std.specs.List.{flat_map}
use Rattle.kmc_split.specs.declared.runs.Run.{Run}
use Rattle.kmc_split.specs.Cut.{IsCut}
use Rattle.kmc_split.specs.SuperKmer.{SuperKmerValue, super_kmer_words}
use Rattle.kmc_split.specs.SuperKmers.{super_kmer_of_run}

-- the words of super-k-mers, one super-k-mer after another
abbrev pub all_words : List SuperKmerValue → List (List ℕ)
all_words super_kmers = flat_map super_kmer_words super_kmers

-- the super-k-mers are those of the runs of the cut, in order
pub record IsCutInto (k m : ℕ) (codes : List ℕ) (super_kmers : List SuperKmerValue) : Type 0 where
  pub runs : List Run
  pub cut : IsCut k m codes runs
  pub each : super_kmers ≡ map (super_kmer_of_run k codes) runs
