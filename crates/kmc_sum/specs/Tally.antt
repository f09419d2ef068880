-- The sum so far of pairs that come with rising words.
use Rattle.std.specs.Prelude.{◌≡◌, ℕ, ◌-◌, ◌^◌, ◌≤◌, cond, min, List, []}
use Rattle.std.proofs.Common.{zero, suc}
use Rattle.std.specs.List.{cons_option}
use Rattle.std.specs.declared.cmp.Ordering.TheVariants.{Less}
use Rattle.kmc_base.specs.Words.{kmer_cmp}
use Rattle.kmc_count.specs.Occurrences.{same_word}
use Rattle.kmc_count.specs.Dump.{IsDump, keep_pair}
use Rattle.kmc_count.specs.declared.limits.Limits.{Limits}

-- the pair of a word and its number, where the number is not 0 and is listed
abbrev pub kept_pair : Limits → List ℕ → ℕ → List (List ℕ × ℕ)
kept_pair l x zero = []
kept_pair l x (suc n) = cons_option (keep_pair l (x, suc n)) []

-- a count but for one word
abbrev pub without : List ℕ → (List ℕ → ℕ) → List ℕ → ℕ
without x c y = cond (same_word x y) 0 (c y)

-- the pairs are the dump of the count but for the word x, which is the last of those that have a number, and whose number is open
pub record Tallied (l : Limits) (c : List ℕ → ℕ) (x : List ℕ) (n : ℕ) (pairs : List (List ℕ × ℕ)) : Type 0 where
  pub dump : IsDump (without x c) l pairs
  pub number : n ≡ min (c x) (2 ^ 64 - 1)
  pub last : (y : List ℕ) → 1 ≤ without x c y → kmer_cmp y x ≡ Less
