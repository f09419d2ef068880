-- Where a record begins, and where a walk over records stops.
use Rattle.std.specs.Prelude.{◌≡◌, ℕ, ◌<◌, List, ◌++◌, length, take, drop}
use Rattle.kmc_base.specs.Record.{spelling, IsBodyOf, IsSpelled}

-- the bytes are the record of a super-k-mer and a rest
pub record BeginsRecord (k : ℕ) (bytes : List ℕ) : Type 0 where
  pub codes : List ℕ
  pub rest : List ℕ
  pub spelled : IsSpelled k codes
  pub is : bytes ≡ spelling k codes ++ rest

-- whole records up to some place inside the body, and there one more: memory was wanted for that
pub record StopsAtRecord (k : ℕ) (body : List ℕ) : Type 0 where
  pub offset : ℕ
  pub inside : offset < length body
  pub before : List (List ℕ)
  pub whole : IsBodyOf k before (take offset body)
  pub here : BeginsRecord k (drop offset body)
