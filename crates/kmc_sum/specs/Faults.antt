-- The first fault of a text.
use Rattle.std.specs.Prelude.{◌≡◌, ◌≢◌, ℕ, ◌+◌, ◌-◌, ◌^◌, min, List, [], ◌∷◌, ◌++◌, length, Option}
use Rattle.std.specs.Io.KnownBytes.{Consumes}
use Rattle.std.specs.declared.cmp.Ordering.TheVariants.{Less}
use Rattle.kmc_base.specs.Words.{kmer_cmp}
use Rattle.kmc_lists.specs.Line.{line_of, text_of}
use Rattle.kmc_sum.specs.declared.error.LineFault.{LineFault}
use Rattle.kmc_sum.specs.declared.error.LineFault.TheVariants.{Malformed, OtherLength, NotRising}
use Rattle.kmc_sum.specs.Source.{IsEnough}
use Rattle.kmc_sum.specs.Listed.{IsLength, IsPair, AreListed}

-- the number of the line behind these, which stays at its greatest value
abbrev pub line_after : List (List ℕ × ℕ) → ℕ
line_after pairs = min (length pairs + 1) (2 ^ 64 - 1)

-- no line of a dump is a front of these bytes
abbrev pub BeginsNoLine : List ℕ → Type 0
BeginsNoLine rest = (n : ℕ) (p : List ℕ × ℕ) (more : List ℕ) → IsLength n → IsPair n p → rest ≡ line_of p ++ more → ⊥

-- the line of this pair is a front of these bytes
abbrev pub BeginsLine : List ℕ × ℕ → List ℕ → Type 0
BeginsLine p rest = (more : List ℕ) × (rest ≡ line_of p ++ more)

-- the reader gave the lines of these pairs, and then the rest
pub record GaveFront (k : ℕ) (old new : Option (List ℕ)) (pairs : List (List ℕ × ℕ)) (rest : List ℕ) : Type 0 where
  pub listed : AreListed k pairs
  pub bytes : Consumes old new (text_of pairs ++ rest)

-- this line is none of a dump: enough of it was read to tell, or the text ends
pub record IsMalformed (k : ℕ) (old new : Option (List ℕ)) (line : ℕ) : Type 0 where
  pub pairs : List (List ℕ × ℕ)
  pub rest : List ℕ
  pub gave : GaveFront k old new pairs rest
  pub number : line ≡ line_after pairs
  pub some : rest ≢ []
  pub enough : IsEnough rest new
  pub none : BeginsNoLine rest

-- this line has a word of another length
pub record IsOfOtherLength (k : ℕ) (old new : Option (List ℕ)) (line : ℕ) : Type 0 where
  pub pairs : List (List ℕ × ℕ)
  pub rest : List ℕ
  pub gave : GaveFront k old new pairs rest
  pub number : line ≡ line_after pairs
  pub pair : List ℕ × ℕ
  pub n : ℕ
  pub long : IsLength n
  pub other : n ≢ k
  pub is : IsPair n pair
  pub begins : BeginsLine pair rest

-- the word of this line is not above that of the line before
pub record IsNotRising (k : ℕ) (old new : Option (List ℕ)) (line : ℕ) : Type 0 where
  pub pairs : List (List ℕ × ℕ)
  pub last : List ℕ × ℕ
  pub rest : List ℕ
  pub gave : GaveFront k old new (pairs ++ last ∷ []) rest
  pub number : line ≡ line_after (pairs ++ last ∷ [])
  pub pair : List ℕ × ℕ
  pub is : IsPair k pair
  pub not_above : kmer_cmp last.0 pair.0 ≢ Less
  pub begins : BeginsLine pair rest

-- this line is the first that is at fault, and so
abbrev pub IsFaultAt : ℕ → Option (List ℕ) → Option (List ℕ) → ℕ → LineFault → Type 0
IsFaultAt k old new line Malformed = IsMalformed k old new line
IsFaultAt k old new line OtherLength = IsOfOtherLength k old new line
IsFaultAt k old new line NotRising = IsNotRising k old new line
