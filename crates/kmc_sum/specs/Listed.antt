-- What the text of a dump lists.
use Rattle.std.specs.Prelude.{◌≡◌, ℕ, ◌<◌, ◌≤◌, ◌^◌, List}
use Rattle.std.specs.List.{AllByRecursion, AllZip}
use Rattle.std.specs.List.Sorted.{IsStrictlySortedBy}
use Rattle.kmc_base.specs.Words.{kmer_cmp}
use Rattle.kmc_base.specs.Lemmas.Keys.{IsWord}
use Rattle.kmc_base.specs.declared.kmer.TheConstants.{MAX_K}
use Rattle.kmc_count.specs.Dump.{words_of, IsDump}
use Rattle.kmc_lists.specs.Line.{text_of}
use Rattle.kmc_count.specs.declared.limits.Limits.{Limits}
use Rattle.kmc_sum.specs.Sum.{sum_of}

-- the length of a word that a dump may have
abbrev pub IsLength : ℕ → Type 0
IsLength k = (1 ≤ k) × (k ≤ MAX_K)

-- a word of k codes and a number from 1 to 2^64 - 1
pub record IsPair (k : ℕ) (p : List ℕ × ℕ) : Type 0 where
  pub word : IsWord k p.0
  pub some : 1 ≤ p.1
  pub most : p.1 < 2 ^ 64

-- such pairs, whose words rise: (AC, 2), (CA, 5) are at k = 2, and (CA, 5), (AC, 2) and (AC, 2), (AC, 5) are not
pub record AreListed (k : ℕ) (pairs : List (List ℕ × ℕ)) : Type 0 where
  pub each : AllByRecursion (IsPair k) pairs
  pub rising : IsStrictlySortedBy kmer_cmp (words_of pairs)

-- the text is the lines of these pairs and nothing else: "AC<tab>2<line feed>CA<tab>5<line feed>" lists (AC, 2), (CA, 5)
pub record Lists (k : ℕ) (text : List ℕ) (pairs : List (List ℕ × ℕ)) : Type 0 where
  pub listed : AreListed k pairs
  pub lines : text ≡ text_of pairs

-- each text lists pairs with words of one length, and these are the dump of their sum within the limits
pub record IsMerge (l : Limits) (texts : List (List ℕ)) (pairs : List (List ℕ × ℕ)) : Type 0 where
  pub k : ℕ
  pub long : IsLength k
  pub lists : List (List (List ℕ × ℕ))
  pub listed : AllZip (Lists k) texts lists
  pub dump : IsDump (sum_of lists) l pairs
