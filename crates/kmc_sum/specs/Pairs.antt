-- The pairs of lines that were taken.
use Rattle.std.specs.Prelude.{◌≡◌, ℕ, ◌<◌, ◌^◌, List, [], ◌∷◌, ◌++◌, Option, Some, None}
use Rattle.kmc_base.specs.Packed.{unpack}
use Rattle.kmc_sum.specs.declared.line.Line.{Line}

-- the pair of a line whose word has k codes, where there is a line
abbrev pub pairs_of : ℕ → Option Line → List (List ℕ × ℕ)
pairs_of k None = []
pairs_of k (Some l) = (unpack k l.packed, l.count) ∷ []

-- the last of the pairs has this packed word of k codes
pub record EndsIn (k last : ℕ) (pairs : List (List ℕ × ℕ)) : Type 0 where
  pub front : List (List ℕ × ℕ)
  pub count : ℕ
  pub are : pairs ≡ front ++ (unpack k last, count) ∷ []
  pub fits : last < 4 ^ k
