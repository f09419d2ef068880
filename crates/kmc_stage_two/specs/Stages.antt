-- What bins are counted to.
use Rattle.std.specs.Prelude.{ℕ, List, map}
use Rattle.std.specs.List.{AllZip}
use Rattle.kmc_base.specs.declared.strands.Strands.{Strands}
use Rattle.kmc_base.specs.Record.{IsBodyOf}
use Rattle.kmc_record.specs.RecordWords.{record_keys}
use Rattle.kmc_count.specs.declared.limits.Limits.{Limits}
use Rattle.kmc_count.specs.Occurrences.{occurrences}
use Rattle.kmc_count.specs.Dump.{IsDump}
use Rattle.kmc_count.specs.Merge.{joined}

-- the bodies are whole records, and the pairs are the dump of the words of them all
pub record IsDumpOfBins (strands : Strands) (k : ℕ) (l : Limits) (bodies : List (List ℕ)) (pairs : List (List ℕ × ℕ)) : Type 0 where
  pub super_kmers : List (List (List ℕ))
  pub records : AllZip (IsBodyOf k) super_kmers bodies
  pub dump : IsDump (occurrences (joined (map (record_keys strands k) super_kmers))) l pairs
