-- Lists of pairs that share no word, and the one list of them all.
use Rattle.std.specs.Prelude.{ℕ, List}
use Rattle.std.specs.List.{All, AllPairs, AllZip, Contains, flat_map}
use Rattle.std.specs.List.Sorted.{IsPermutation, IsStrictlySortedBy}
use Rattle.kmc_base.specs.Words.{kmer_cmp}
use Rattle.kmc_count.specs.declared.limits.Limits.{Limits}
use Rattle.kmc_count.specs.Occurrences.{occurrences}
use Rattle.kmc_count.specs.Dump.{words_of, IsDump}

-- the lists, one after the other
abbrev pub joined : {X : Type 0} → List (List X) → List X
joined xss = flat_map (λ xs. xs) xss

-- no word stands in two of the lists
abbrev pub AreApart : List (List (List ℕ)) → Type 0
AreApart wss = AllPairs (λ ws vs. (x : List ℕ) → Contains ws x → ¬ (Contains vs x)) wss

-- the words of each list rise
abbrev pub EachRises : List (List (List ℕ × ℕ)) → Type 0
EachRises lists = All (λ pairs. IsStrictlySortedBy kmer_cmp (words_of pairs)) lists

-- all pairs of the lists, each as often as it stands there, rising by their words
pub record IsMerged (lists : List (List (List ℕ × ℕ))) (pairs : List (List ℕ × ℕ)) : Type 0 where
  pub all : IsPermutation (joined lists) pairs
  pub rising : IsStrictlySortedBy kmer_cmp (words_of pairs)

-- as many lists of pairs as of words, and each is the dump of the words at its place
abbrev pub AreDumps : Limits → List (List (List ℕ)) → List (List (List ℕ × ℕ)) → Type 0
AreDumps l wss lists = AllZip (λ ws pairs. IsDump (occurrences ws) l pairs) wss lists
