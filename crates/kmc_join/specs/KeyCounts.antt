-- Sorted keys and their counts.
use Rattle.std.specs.Prelude.{◌≡◌, ◌<◌, ℕ, List, [], length, slice_index, slice_index_or}
use Rattle.std.specs.declared.cmp.Ordering.TheVariants.{Less}
use Rattle.kmc_base.specs.Words.{kmer_cmp}

abbrev pub key_at : List (List ℕ) → ℕ → List ℕ
key_at keys j = slice_index_or keys j []

-- each key has its count: of ACG, CCA, CCA and the counts 7 of ACG and 4 of CCA the list 7, 4, 4
pub record AreCounts (count : List ℕ → ℕ) (keys : List (List ℕ)) (counts : List ℕ) : Type 0 where
  pub long : length counts ≡ length keys
  pub each : (j : ℕ) → j < length keys → slice_index counts j ≡ count (key_at keys j)

-- so many first keys are below a word
abbrev pub AreBelow : List (List ℕ) → ℕ → List ℕ → Type 0
AreBelow keys many word = (j : ℕ) → j < many → kmer_cmp (key_at keys j) word ≡ Less
