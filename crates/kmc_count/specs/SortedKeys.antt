-- The packed keys of a body.
use Rattle.std.specs.Prelude.{ℕ, List, map}
use Rattle.std.specs.List.Sorted.{IsPermutation, IsSorted}
use Rattle.std.specs.Ordering.{nat_cmp}
use Rattle.kmc_base.specs.Packed.{pack}
use Rattle.kmc_base.specs.declared.strands.Strands.{Strands}
use Rattle.kmc_base.specs.Record.{IsBodyOf}
use Rattle.kmc_record.specs.RecordWords.{record_keys}

-- the body is whole records, and the numbers are the packed keys of their words, rising
pub record AreSortedKeys (strands : Strands) (k : ℕ) (body numbers : List ℕ) : Type 0 where
  pub super_kmers : List (List ℕ)
  pub records : IsBodyOf k super_kmers body
  pub moved : IsPermutation (map pack (record_keys strands k super_kmers)) numbers
  pub sorted : IsSorted nat_cmp numbers
