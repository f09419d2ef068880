-- The super-k-mer of a run.
use Rattle.std.specs.Prelude.{ℕ, List}
use Rattle.kmc_split.specs.declared.runs.Run.{Run}
use Rattle.kmc_split.specs.Cut.{run_codes}
use Rattle.kmc_split.specs.SuperKmer.{SuperKmerValue}

-- the super-k-mer of a run
abbrev pub super_kmer_of_run : ℕ → List ℕ → Run → SuperKmerValue
super_kmer_of_run k codes r = record { k = k; codes = run_codes k codes r }
