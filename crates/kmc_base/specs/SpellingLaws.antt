-- Laws of spellings.
use Rattle.std.specs.Prelude.{◌≡◌, ℕ, ◌+◌, ◌-◌, ◌*◌, ◌/◌, ◌%◌, ◌^◌, ◌<◌, ◌≤◌, List, length, slice_index, ◌++◌}
use Rattle.std.specs.List.{All}
use Rattle.kmc_base.specs.Record.{spelling, IsSpelled, IsBodyOf, size_of}

-- the two bits of the symbol at place i: behind the first byte four symbols lie in a byte, the first in its highest bits
abbrev pub bits_at : List ℕ → ℕ → ℕ
bits_at bytes i = slice_index bytes (1 + i / 4) / 2 ^ (6 - 2 * (i % 4)) % 4

-- bytes that are the record of the codes of a super-k-mer
pub record IsLaidOut (k : ℕ) (codes bytes : List ℕ) : Type 0 where
  pub size : length bytes ≡ 1 + size_of (length codes)
  pub are_bytes : All (λ b. b < 256) bytes
  pub above : slice_index bytes 0 + k ≡ length codes
  pub symbol : (i : ℕ) → i < length codes → bits_at bytes i ≡ slice_index codes i
  pub zeros : (i : ℕ) → length codes ≤ i → i < 4 * size_of (length codes) → bits_at bytes i ≡ 0

-- the spelling of a super-k-mer lies so
abbrev pub SpellingIsLaidOut : Type 0
SpellingIsLaidOut = (k : ℕ) (codes : List ℕ) → IsSpelled k codes → IsLaidOut k codes (spelling k codes)

-- bytes that begin with the records of two super-k-mers begin with one
abbrev pub NoSpellingBeginsAnother : Type 0
NoSpellingBeginsAnother = (k : ℕ) (s t rest other : List ℕ) → IsSpelled k s → IsSpelled k t
    → spelling k s ++ rest ≡ spelling k t ++ other → (s ≡ t) × (rest ≡ other)

-- a body is the records of one list of super-k-mers
abbrev pub BodyHasOneList : Type 0
BodyHasOneList = (k : ℕ) (ss ts : List (List ℕ)) (body : List ℕ) → IsBodyOf k ss body → IsBodyOf k ts body → ss ≡ ts
