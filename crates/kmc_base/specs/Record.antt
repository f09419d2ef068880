-- How super-k-mers are spelled as records.
use Rattle.std.specs.Prelude.{◌≡◌, ℕ, ◌+◌, ◌-◌, ◌*◌, ◌/◌, ◌%◌, ◌<◌, ◌≤◌, List, [], ◌∷◌, length}
use Rattle.std.specs.List.{flat_map, AllByRecursion}

-- codes in bytes: four in each, the first in the highest bits, and zeros behind the last
abbrev pub packed_codes : List ℕ → List ℕ
packed_codes [] = []
packed_codes (a ∷ []) = (a * 64) ∷ []
packed_codes (a ∷ b ∷ []) = (a * 64 + b * 16) ∷ []
packed_codes (a ∷ b ∷ c ∷ []) = (a * 64 + b * 16 + c * 4) ∷ []
packed_codes (a ∷ b ∷ c ∷ d ∷ w) = (a * 64 + b * 16 + c * 4 + d) ∷ packed_codes w

-- the record of the codes of a super-k-mer: how many it has above k, and then the codes
abbrev pub spelling : ℕ → List ℕ → List ℕ
spelling k s = (length s - k) ∷ packed_codes s

-- what a record can spell: 1 to 256 overlapping words
pub record IsSpelled (k : ℕ) (s : List ℕ) : Type 0 where
  pub least : k ≤ length s
  pub most : length s ≤ k + 255
  pub codes : AllByRecursion (λ c. c < 4) s

-- a body is the records of these super-k-mers, one after the other
pub record IsBodyOf (k : ℕ) (ss : List (List ℕ)) (body : List ℕ) : Type 0 where
  pub each : AllByRecursion (IsSpelled k) ss
  pub is : body ≡ flat_map (spelling k) ss

-- the four codes of a byte, the highest bits first
abbrev pub quarters : ℕ → List ℕ
quarters b = b / 64 % 4 ∷ b / 16 % 4 ∷ b / 4 % 4 ∷ b % 4 ∷ []

abbrev pub codes_in : List ℕ → List ℕ
codes_in bytes = flat_map quarters bytes

-- how many bytes hold so many codes
abbrev pub size_of : ℕ → ℕ
size_of n = (n + 3) / 4
