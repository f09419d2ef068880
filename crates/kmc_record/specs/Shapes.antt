-- How reads are cut into parts.
use Rattle.std.specs.Prelude.{ℕ, ◌≤◌}
use Rattle.kmc_base.specs.declared.kmer.TheConstants.{MAX_K}
use Rattle.kmc_split.specs.declared.signatures.TheConstants.{MAX_M}
use Rattle.kmc_record.specs.declared.shape.TheConstants.{LEAST_P, MOST_BINS}

-- the symbols of a word, those of an m-mer that signatures are made of, and the number of bins
pub record Sizes : Type 0 where
  pub k : ℕ
  pub m : ℕ
  pub n : ℕ

-- the limits on k, on what m is at most as it may be asked for, and on the number of bins
pub record AreWithinLimits (k p n : ℕ) : Type 0 where
  pub some_k : 1 ≤ k
  pub most_k : k ≤ MAX_K
  pub least_p : LEAST_P ≤ p
  pub most_p : p ≤ MAX_M
  pub some_n : 1 ≤ n
  pub most_n : n ≤ MOST_BINS

-- what a `Shape` can hold: m may be 0, and then all words are of one signature
pub record IsShape (k m n : ℕ) : Type 0 where
  pub some_k : 1 ≤ k
  pub most_k : k ≤ MAX_K
  pub most_m : m ≤ MAX_M
  pub within : m ≤ k
  pub some_n : 1 ≤ n
  pub most_n : n ≤ MOST_BINS
