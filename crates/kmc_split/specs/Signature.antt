-- Signatures of words (KMC 2's minimizers; which m-mers are allowed is this project's rule).
use Rattle.std.specs.Prelude.{ℕ, ◌%◌, ◌^◌, ◌==◌, ◌&&◌, ◌||◌, Bool, false, not, nat_eq, min, List, [], ◌∷◌, map, take, drop}
use Rattle.std.specs.List.{filter}
use Rattle.std.specs.Cmp.Lexicographic.{pointwise}
use Rattle.kmc_base.specs.Words.{canonical, windows}
use Rattle.kmc_base.specs.Packed.{pack}

-- two neighbouring A stand in the word
abbrev pub has_pair : List ℕ → Bool
has_pair [] = false
has_pair (c ∷ []) = false
has_pair (c ∷ d ∷ w) = ((c == 0) && (d == 0)) || has_pair (d ∷ w)

-- the word begins with these three codes
abbrev pub begins : List ℕ → List ℕ → Bool
begins v w = pointwise nat_eq (take 3 w) v

-- a canonical m-mer that may be a signature: it begins neither AAA nor ACA, and has no AA at an index of 1 or more
abbrev pub is_allowed : List ℕ → Bool
is_allowed w = not (begins (0 ∷ 0 ∷ 0 ∷ []) w) && not (begins (0 ∷ 1 ∷ 0 ∷ []) w) && not (has_pair (drop 1 w))

-- the least of some numbers, none of which is above `most`, and `most` where there is none
abbrev pub least : ℕ → List ℕ → ℕ
least most [] = most
least most (x ∷ xs) = min x (least most xs)

-- the least value of the allowed canonical forms of the m-mers of a word, and 4 ^ m where there is none
abbrev pub signature_of : ℕ → List ℕ → ℕ
signature_of m w = least (4 ^ m) (map pack (filter is_allowed (map canonical (windows m w))))

-- the bin of a signature, of n bins
abbrev pub bin_of_signature : ℕ → ℕ → ℕ
bin_of_signature n signature = signature % n

-- the bin of a word, of n bins, where signatures are made of m-mers: how a bin is chosen is said here alone
abbrev pub bin_of : ℕ → ℕ → List ℕ → ℕ
bin_of m n w = bin_of_signature n (signature_of m w)
